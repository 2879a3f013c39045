use Rattle.std.proofs.Common.{ℕ}
use Rattle.judging.specs.Paths.{Path}
use Rattle.judging.proofs.laws.judge_unfolds_stands.Goals as goal
use Rattle.judging.proofs.Steady.{judge_unfolds}

pub returns : goal.returns
returns c = (judge_unfolds Path, judge_unfolds ℕ)
