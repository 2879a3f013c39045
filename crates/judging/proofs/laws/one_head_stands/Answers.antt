use Rattle.std.proofs.Common.{ℕ}
use Rattle.judging.specs.Paths.{Path}
use Rattle.judging.proofs.laws.one_head_stands.Goals as goal
use Rattle.judging.proofs.Determined.{one_head_only}

pub returns : goal.returns
returns c = (one_head_only Path, one_head_only ℕ)
