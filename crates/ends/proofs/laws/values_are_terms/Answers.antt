use Rattle.ends.proofs.Values.{values_are_terms_lem}
use Rattle.ends.proofs.laws.values_are_terms.Goals as goal

pub returns : goal.returns
returns c = values_are_terms_lem
