use Rattle.std.proofs.Common.{rules}
use Rattle.syntax.specs.Tables.{listed}
use Rattle.declarations.specs.Numbers.{in_profile}
use Rattle.declarations.proofs.First.{found}
use Rattle.declarations.proofs.in_functions.Goals as goal

pub returns : goal.returns
returns c = found c.args.known (λ f. in_profile f.at (listed f.params) f.result) c.args.functions.now c.find_map.result (search rules)
