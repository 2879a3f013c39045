use Rattle.judging.proofs.laws.asked_paths_stands.Goals as goal
use Rattle.judging.proofs.Reached.{asked_paths}

pub returns : goal.returns
returns c = asked_paths
