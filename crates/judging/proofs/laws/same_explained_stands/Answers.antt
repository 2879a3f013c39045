use Rattle.std.proofs.Common.{ℕ}
use Rattle.judging.specs.Paths.{Path}
use Rattle.judging.proofs.laws.same_explained_stands.Goals as goal
use Rattle.judging.proofs.Explained.{same_explained}

pub returns : goal.returns
returns c = (same_explained Path, same_explained ℕ)
