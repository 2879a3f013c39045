use Rattle.finder.proofs.Ways.{never_foreign}
use Rattle.finder.proofs.laws.never_foreign_stands.Goals as goal

pub returns : goal.returns
returns c = never_foreign
