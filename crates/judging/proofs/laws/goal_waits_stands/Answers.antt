use Rattle.judging.proofs.laws.goal_waits_stands.Goals as goal
use Rattle.judging.proofs.Goals.{goal_waits}

pub returns : goal.returns
returns c = goal_waits
