use Rattle.std.proofs.Common.{ℕ}
use Rattle.judging.specs.Paths.{Path}
use Rattle.judging.proofs.laws.more_steps_stands.Goals as goal
use Rattle.judging.proofs.Spent.{more_steps}

pub returns : goal.returns
returns c = (more_steps Path, more_steps ℕ)
