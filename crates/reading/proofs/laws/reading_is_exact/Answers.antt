use Rattle.reading.proofs.Verdicts.{reading_is_exact_lem}
use Rattle.reading.proofs.laws.reading_is_exact.Goals as goal

pub returns : goal.returns
returns c = reading_is_exact_lem
