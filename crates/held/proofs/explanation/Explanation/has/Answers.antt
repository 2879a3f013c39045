use Rattle.std.proofs.Common.{arith}
use Rattle.std.proofs.lemmas.Grind.{common_steps}
use Rattle.held.proofs.Explanations.{past}
use Rattle.held.proofs.explanation.Explanation.has.Goals as goal

pub returns : goal.returns
returns c = grind (arith, common_steps, past)
