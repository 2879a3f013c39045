use Rattle.histories.proofs.Theorem.{nothing_overlooked}
use Rattle.histories.proofs.laws.nothing_overlooked_stands.Goals as goal

pub returns : goal.returns
returns c = nothing_overlooked
