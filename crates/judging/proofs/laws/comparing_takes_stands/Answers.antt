use Rattle.std.proofs.Common.{ℕ}
use Rattle.judging.specs.Paths.{Path}
use Rattle.judging.proofs.laws.comparing_takes_stands.Goals as goal
use Rattle.judging.proofs.Spent.{comparing_takes}

pub returns : goal.returns
returns c = (comparing_takes Path, comparing_takes ℕ)
