use Rattle.judging.proofs.laws.examples_stand.Goals as goal
use Rattle.judging.proofs.Examples.{examples}

pub returns : goal.returns
returns c = examples
