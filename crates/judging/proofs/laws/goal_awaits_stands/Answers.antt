use Rattle.std.proofs.Common.{ℕ}
use Rattle.judging.specs.Paths.{Path}
use Rattle.judging.proofs.laws.goal_awaits_stands.Goals as goal
use Rattle.judging.proofs.Asked.{goal_awaits}

pub returns : goal.returns
returns c = (goal_awaits Path, goal_awaits ℕ)
