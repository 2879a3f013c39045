use Rattle.judging.proofs.laws.only_reached_compare_stands.Goals as goal
use Rattle.judging.proofs.Reached.{reached_only_compare}

pub returns : goal.returns
returns c = reached_only_compare
