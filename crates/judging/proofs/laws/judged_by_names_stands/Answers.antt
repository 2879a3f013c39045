use Rattle.judging.proofs.laws.judged_by_names_stands.Goals as goal
use Rattle.judging.proofs.Goals.{judged_by_names}

pub returns : goal.returns
returns c = judged_by_names
