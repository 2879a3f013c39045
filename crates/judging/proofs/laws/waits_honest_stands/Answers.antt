use Rattle.std.proofs.Common.{ℕ}
use Rattle.judging.specs.Paths.{Path}
use Rattle.judging.proofs.laws.waits_honest_stands.Goals as goal
use Rattle.judging.proofs.Waiting.{waits_honest}

pub returns : goal.returns
returns c = (waits_honest Path, waits_honest ℕ)
