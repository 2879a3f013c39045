use Rattle.finder.proofs.Assigned.{never_stands_lem}
use Rattle.finder.proofs.laws.never_stands.Goals as goal

pub returns : goal.returns
returns c = never_stands_lem
