use Rattle.judging.proofs.laws.closed_compare_stands.Goals as goal
use Rattle.judging.proofs.Closed.{closed_compare}

pub returns : goal.returns
returns c = closed_compare
