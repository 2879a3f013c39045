use Rattle.std.proofs.Common.{ℕ}
use Rattle.judging.specs.Paths.{Path}
use Rattle.judging.proofs.laws.same_decided_stands.Goals as goal
use Rattle.judging.proofs.Asked.{same_decided}

pub returns : goal.returns
returns c = (same_decided Path, same_decided ℕ)
