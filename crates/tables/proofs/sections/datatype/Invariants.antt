use Rattle.std.proofs.Common.{◌≡◌, ◌-◌, ◌++◌, map, length, take}
use Rattle.syntax.specs.Tables.{listed}
use Rattle.records.specs.Next.{lists_in, Lists}
use Rattle.tables.proofs.sections.datatype.Given as goal

abbrev pub invariant-loop-list : goal.invariant-loop-list
invariant-loop-list l =
    (length l.list-items ≡ l.item.count)
    × Lists (length l.list-items - l.list-index) l.rest
    × (map listed (take l.list-index l.list-items) ++ lists_in (length l.list-items - l.list-index) l.rest ≡ lists_in l.item.count l.item.constructors.now)
