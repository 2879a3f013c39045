use Rattle.judging.proofs.laws.goal_explains_stands.Goals as goal
use Rattle.judging.proofs.Goals.{goal_explains}

pub returns : goal.returns
returns c = goal_explains
