use Rattle.places.proofs.Openings.{begins_placed}
use Rattle.places.proofs.laws.begins_placed_stands.Goals as goal

pub returns : goal.returns
returns c = begins_placed
