use Rattle.std.proofs.Common.{◌≡◌, ◌+◌, ◌*◌, ◌≤◌, map, drop}
use Rattle.syntax.specs.Tables.{listed}
use Rattle.declarations.specs.Numbers.{in_cases, first_from}
use Rattle.declarations.proofs.in_cases.Given as goal

abbrev pub invariant-loop-list : goal.invariant-loop-list
invariant-loop-list l =
    (first_from l.known (in_cases l.place (map listed l.cases)) ≡ first_from l.known (in_cases l.at (map listed (drop l.list-index l.cases))))
    × (l.at ≤ l.place + 7 * l.list-index)
