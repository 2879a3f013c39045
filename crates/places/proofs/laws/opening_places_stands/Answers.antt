use Rattle.places.proofs.Openings.{opening_places}
use Rattle.places.proofs.laws.opening_places_stands.Goals as goal

pub returns : goal.returns
returns c = opening_places
