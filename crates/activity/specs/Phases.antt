-- The value that each variable last had.
use Rattle.std.specs.Prelude.{Bool, List, map}
use Rattle.activity.specs.declared.order.Order.{Order}

abbrev pub phases : Order → List Bool
phases o = map (λ v. v.phase) o.variables.items
