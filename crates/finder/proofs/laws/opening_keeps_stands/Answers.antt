use Rattle.finder.proofs.Invariant.{opening_keeps}
use Rattle.finder.proofs.laws.opening_keeps_stands.Goals as goal

pub returns : goal.returns
returns c = opening_keeps
