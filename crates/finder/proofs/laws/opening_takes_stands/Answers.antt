use Rattle.finder.proofs.Clauses.{opening_takes}
use Rattle.finder.proofs.laws.opening_takes_stands.Goals as goal

pub returns : goal.returns
returns c = opening_takes
