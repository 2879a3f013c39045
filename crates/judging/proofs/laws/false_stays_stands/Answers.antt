use Rattle.std.proofs.Common.{ℕ}
use Rattle.judging.specs.Paths.{Path}
use Rattle.judging.proofs.laws.false_stays_stands.Goals as goal
use Rattle.judging.proofs.Stays.{false_stays}

pub returns : goal.returns
returns c = (false_stays Path, false_stays ℕ)
