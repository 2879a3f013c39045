use Rattle.judging.proofs.laws.false_forbids_stands.Goals as goal
use Rattle.judging.proofs.Truth.{false_forbids}

pub returns : goal.returns
returns c = false_forbids
