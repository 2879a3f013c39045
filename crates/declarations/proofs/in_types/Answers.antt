use Rattle.std.proofs.Common.{rules, ◌+◌}
use Rattle.syntax.specs.Tables.{cases_in}
use Rattle.declarations.specs.Numbers.{in_cases}
use Rattle.declarations.proofs.First.{found}
use Rattle.declarations.proofs.in_types.Goals as goal

pub returns : goal.returns
returns c = found c.args.known (λ d. in_cases (d.at + 3) (cases_in d)) c.args.types.now c.find_map.result (search rules)
