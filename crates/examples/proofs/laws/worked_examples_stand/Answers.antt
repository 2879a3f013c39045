use Rattle.examples.proofs.Worked.{worked_examples}
use Rattle.examples.proofs.laws.worked_examples_stand.Goals as goal

pub returns : goal.returns
returns c = worked_examples
