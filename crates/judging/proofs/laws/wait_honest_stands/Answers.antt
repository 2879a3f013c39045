use Rattle.std.proofs.Common.{ℕ}
use Rattle.judging.specs.Paths.{Path}
use Rattle.judging.proofs.laws.wait_honest_stands.Goals as goal
use Rattle.judging.proofs.Waiting.{wait_honest}

pub returns : goal.returns
returns c = (wait_honest Path, wait_honest ℕ)
