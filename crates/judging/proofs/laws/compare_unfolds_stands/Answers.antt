use Rattle.std.proofs.Common.{ℕ}
use Rattle.judging.specs.Paths.{Path}
use Rattle.judging.proofs.laws.compare_unfolds_stands.Goals as goal
use Rattle.judging.proofs.Steady.{compare_unfolds}

pub returns : goal.returns
returns c = (compare_unfolds Path, compare_unfolds ℕ)
