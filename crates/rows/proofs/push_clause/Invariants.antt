-- The row has the literals before the place, and its room is as it was.
use Rattle.std.proofs.Common.{◌≡◌, ◌+◌, ◌++◌, take, vec_items, vec_len, vec_capacity}
use Rattle.rows.proofs.push_clause.Given as goal

abbrev pub invariant-loop-l : goal.invariant-loop-l
invariant-loop-l l = (vec_items l.row ≡ vec_items l.initial.row ++ take l.l-index l.clause) × (vec_len l.row ≡ vec_len l.initial.row + l.l-index) × (vec_capacity l.row ≡ vec_capacity l.initial.row)
