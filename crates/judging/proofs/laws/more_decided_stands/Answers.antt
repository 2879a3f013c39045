use Rattle.std.proofs.Common.{ℕ}
use Rattle.judging.specs.Paths.{Path}
use Rattle.judging.proofs.laws.more_decided_stands.Goals as goal
use Rattle.judging.proofs.Determined.{more_decided}

pub returns : goal.returns
returns c = (more_decided Path, more_decided ℕ)
