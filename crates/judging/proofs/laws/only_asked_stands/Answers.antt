use Rattle.std.proofs.Common.{ℕ}
use Rattle.judging.specs.Paths.{Path}
use Rattle.judging.proofs.laws.only_asked_stands.Goals as goal
use Rattle.judging.proofs.Asked.{only_asked}

pub returns : goal.returns
returns c = (only_asked Path, only_asked ℕ)
