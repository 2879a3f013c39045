use Rattle.judging.proofs.laws.true_allows_stands.Goals as goal
use Rattle.judging.proofs.Truth.{true_allows}

pub returns : goal.returns
returns c = true_allows
