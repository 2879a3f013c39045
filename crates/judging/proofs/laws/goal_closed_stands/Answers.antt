use Rattle.judging.proofs.laws.goal_closed_stands.Goals as goal
use Rattle.judging.proofs.Closed.{goal_closed}

pub returns : goal.returns
returns c = goal_closed
