use Rattle.judging.proofs.laws.true_means_stands.Goals as goal
use Rattle.judging.proofs.Truth.{true_means}

pub returns : goal.returns
returns c = true_means
