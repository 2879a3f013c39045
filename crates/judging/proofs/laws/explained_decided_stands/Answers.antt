use Rattle.std.proofs.Common.{ℕ}
use Rattle.judging.specs.Paths.{Path}
use Rattle.judging.proofs.laws.explained_decided_stands.Goals as goal
use Rattle.judging.proofs.Asked.{explained_decided}

pub returns : goal.returns
returns c = (explained_decided Path, explained_decided ℕ)
