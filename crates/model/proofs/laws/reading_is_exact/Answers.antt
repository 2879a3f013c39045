use Rattle.model.proofs.Exactness.{exact}
use Rattle.model.proofs.laws.reading_is_exact.Goals as goal

pub returns : goal.returns
returns c = exact
