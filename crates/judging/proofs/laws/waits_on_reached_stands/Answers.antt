use Rattle.judging.proofs.laws.waits_on_reached_stands.Goals as goal
use Rattle.judging.proofs.Reached.{waits_on_reached}

pub returns : goal.returns
returns c = waits_on_reached
