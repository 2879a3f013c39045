use Rattle.judging.proofs.laws.by_names_stands.Goals as goal
use Rattle.judging.proofs.Names.{by_names}

pub returns : goal.returns
returns c = by_names
