use Rattle.places.proofs.Places.{found_by_places}
use Rattle.places.proofs.laws.found_by_places_stands.Goals as goal

pub returns : goal.returns
returns c = found_by_places
