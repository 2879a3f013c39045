use Rattle.depths.proofs.Leasts.{least_is_least}
use Rattle.depths.proofs.laws.least_stands.Goals as goal

pub returns : goal.returns
returns c = least_is_least
