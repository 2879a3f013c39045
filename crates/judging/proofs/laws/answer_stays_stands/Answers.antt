use Rattle.std.proofs.Common.{ℕ}
use Rattle.judging.specs.Paths.{Path}
use Rattle.judging.proofs.laws.answer_stays_stands.Goals as goal
use Rattle.judging.proofs.Stays.{answer_stays}

pub returns : goal.returns
returns c = (answer_stays Path, answer_stays ℕ)
