-- As many rows are appended as types were read.
use Rattle.std.proofs.Common.{◌≡◌, ◌+◌, ◌++◌, map, take}
use Rattle.unknowns.specs.Opening.{rows_of, unopened}
use Rattle.unknowns.proofs.table.Table.append.Given as goal

abbrev pub invariant-loop-ty : goal.invariant-loop-ty
invariant-loop-ty l =
    (l.self.len ≡ l.initial.self.len + l.ty-index)
    × (rows_of l.self ≡ rows_of l.initial.self ++ map (unopened l.level) (take l.ty-index l.types))
