use Rattle.finder.proofs.Assigned.{none_stands_lem}
use Rattle.finder.proofs.laws.none_stands.Goals as goal

pub returns : goal.returns
returns c = none_stands_lem
