use Rattle.std.proofs.Common.{ℕ}
use Rattle.judging.specs.Paths.{Path}
use Rattle.judging.proofs.laws.differ_explained_stands.Goals as goal
use Rattle.judging.proofs.Explained.{differ_explained}

pub returns : goal.returns
returns c = (differ_explained Path, differ_explained ℕ)
