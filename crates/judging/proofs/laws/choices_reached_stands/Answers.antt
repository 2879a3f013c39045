use Rattle.judging.proofs.laws.choices_reached_stands.Goals as goal
use Rattle.judging.proofs.Truth.{choices_reached}

pub returns : goal.returns
returns c = choices_reached
