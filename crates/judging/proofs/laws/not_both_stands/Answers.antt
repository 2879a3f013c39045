use Rattle.std.proofs.Common.{ℕ}
use Rattle.judging.specs.Paths.{Path}
use Rattle.judging.proofs.laws.not_both_stands.Goals as goal
use Rattle.judging.proofs.Determined.{not_both}

pub returns : goal.returns
returns c = (not_both Path, not_both ℕ)
