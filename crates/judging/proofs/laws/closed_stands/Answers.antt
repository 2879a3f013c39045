use Rattle.judging.proofs.laws.closed_stands.Goals as goal
use Rattle.judging.proofs.Closed.{closed}

pub returns : goal.returns
returns c = closed
