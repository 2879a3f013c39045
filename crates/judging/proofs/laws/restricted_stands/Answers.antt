use Rattle.judging.proofs.laws.restricted_stands.Goals as goal
use Rattle.judging.proofs.Reached.{restricted}

pub returns : goal.returns
returns c = restricted
