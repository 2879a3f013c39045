use Rattle.finder.proofs.Models.{models_stand_lem}
use Rattle.finder.proofs.laws.models_stand.Goals as goal

pub returns : goal.returns
returns c = models_stand_lem
