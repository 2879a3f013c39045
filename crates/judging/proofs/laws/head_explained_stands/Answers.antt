use Rattle.std.proofs.Common.{ℕ}
use Rattle.judging.specs.Paths.{Path}
use Rattle.judging.proofs.laws.head_explained_stands.Goals as goal
use Rattle.judging.proofs.Explained.{head_explained}

pub returns : goal.returns
returns c = (head_explained Path, head_explained ℕ)
