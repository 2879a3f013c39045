use Rattle.std.proofs.Common.{ℕ}
use Rattle.judging.specs.Paths.{Path}
use Rattle.judging.proofs.laws.differ_decided_stands.Goals as goal
use Rattle.judging.proofs.Asked.{differ_decided}

pub returns : goal.returns
returns c = (differ_decided Path, differ_decided ℕ)
