use Rattle.std.proofs.Common.{ℕ}
use Rattle.judging.specs.Paths.{Path}
use Rattle.judging.proofs.laws.judging_takes_stands.Goals as goal
use Rattle.judging.proofs.Spent.{judging_takes}

pub returns : goal.returns
returns c = (judging_takes Path, judging_takes ℕ)
