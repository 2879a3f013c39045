use Rattle.judging.proofs.laws.goal_reached_stands.Goals as goal
use Rattle.judging.proofs.Reached.{goal_reached}

pub returns : goal.returns
returns c = goal_reached
