use Rattle.places.proofs.Places.{conflict_by_places}
use Rattle.places.proofs.laws.conflict_by_places_stands.Goals as goal

pub returns : goal.returns
returns c = conflict_by_places
