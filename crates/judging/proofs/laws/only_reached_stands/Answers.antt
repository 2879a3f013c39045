use Rattle.judging.proofs.laws.only_reached_stands.Goals as goal
use Rattle.judging.proofs.Reached.{reached_only}

pub returns : goal.returns
returns c = reached_only
