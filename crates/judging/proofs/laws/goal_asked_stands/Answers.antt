use Rattle.std.proofs.Common.{ℕ}
use Rattle.judging.specs.Paths.{Path}
use Rattle.judging.proofs.laws.goal_asked_stands.Goals as goal
use Rattle.judging.proofs.Asked.{goal_asked}

pub returns : goal.returns
returns c = (goal_asked Path, goal_asked ℕ)
