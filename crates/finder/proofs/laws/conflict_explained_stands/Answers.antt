use Rattle.finder.proofs.Conflicts.{conflict_explained}
use Rattle.finder.proofs.laws.conflict_explained_stands.Goals as goal

pub returns : goal.returns
returns c = conflict_explained
