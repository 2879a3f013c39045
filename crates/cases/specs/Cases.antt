-- The unknowns that cases decide: an unknown is its place in the table. Assumes nothing.
use Rattle.std.specs.Prelude.{ℕ, ◌+◌, ◌-◌, min, List, [], Some, None, Option, slice_index_or}
use Rattle.std.proofs.Math.Option.{Option as Maybe, none, some}
use Rattle.judging.specs.Judging.{Unknowns}
use Rattle.places.specs.Places.{from}
use Rattle.unknowns.specs.declared.table.Case.{Case}

-- the places of a case's children, those of them that 16 bits hold
abbrev pub children_of : Case → List ℕ
children_of x = from x.kids (min (x.kids + x.count) 65535 - x.kids)

abbrev pub children : Option Case → List ℕ
children None = []
children (Some x) = children_of x

abbrev pub constructor_of : Option Case → Maybe ℕ
constructor_of None = none
constructor_of (Some x) = some x.constructor

abbrev pub by_cases : List (Option Case) → Unknowns ℕ
by_cases cases =
    record {
      roots = λ k. k;
      kids = λ i c. children (slice_index_or cases i None);
      chosen = λ i. constructor_of (slice_index_or cases i None);
    }
