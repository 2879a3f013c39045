use Rattle.places.proofs.Places.{places_name}
use Rattle.places.proofs.laws.places_name_stands.Goals as goal

pub returns : goal.returns
returns c = places_name
