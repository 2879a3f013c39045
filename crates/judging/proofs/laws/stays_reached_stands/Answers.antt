use Rattle.judging.proofs.laws.stays_reached_stands.Goals as goal
use Rattle.judging.proofs.Reached.{stays_reached}

pub returns : goal.returns
returns c = stays_reached
