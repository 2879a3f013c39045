use Rattle.judging.proofs.laws.awaits_by_names_stands.Goals as goal
use Rattle.judging.proofs.Goals.{awaits_by_names}

pub returns : goal.returns
returns c = awaits_by_names
