-- The walk over a table that writes a model: what it appends for an unknown. Assumes nothing.
use Rattle.std.specs.Prelude.{◌≡◌, ℕ, ◌+◌, ◌<◌, ◌≤◌, List, ◌++◌, length, Some, None, Ok, Err, Option, Result, slice_index_or}
use Rattle.syntax.specs.Problems.{Problem, sig_of}
use Rattle.judging.specs.Paths.{type_of}
use Rattle.finder.specs.Tables.{Table}
use Rattle.finder.specs.Ways.{Way, decided}
use Rattle.finder.specs.Models.{Partial, Partials, Shows, ModelOf}
use Rattle.places.specs.Places.{at}
use Rattle.arrayvec.specs.ArrayVec.{ArrayVec}
use Rattle.unknowns.specs.Listing.{row, Stands, DecidesAs}
use Rattle.unknowns.specs.declared.table.Table.{Table as Code}
use Rattle.unknowns.specs.declared.table.Case.{Case}
use Rattle.models.specs.Models.{written_value, written_model, most_bytes}

-- the type and the case at a place of the code's table, if there is a case whose children stand after it
abbrev pub CaseAt : Code → List (Option Case) → ℕ → Option (ℕ × Case) → Type 0
CaseAt t cases i None = (x : Case) → slice_index_or cases i None ≡ Some x → i < 512 → i < x.kids → ⊥
CaseAt t cases i (Some r) = (r.0 ≡ (row t i).ty) × (slice_index_or cases i None ≡ Some r.1) × (i < 512) × (i < r.1.kids)

-- What stands at the place i: the partial value that a way of these cases makes of an unknown of a table that t lists.
pub record ValueAt (t : Code) (cases : List (Option Case)) (i : ℕ) : Type 0 where
  pub problem : Problem
  pub table : Table
  pub count : ℕ
  pub way : Way
  pub stands : Stands problem t table count
  pub decides : DecidesAs problem t table way cases
  pub inside : i < length table
  pub partial : Partial
  pub shows : Shows (sig_of problem) (decided problem table way) (at table i) (type_of (sig_of problem) (at table i)) partial

abbrev pub bytes_of : {t : Code} {cases : List (Option Case)} {i : ℕ} → ValueAt t cases i → List ℕ
bytes_of {i = i} v = written_value (sig_of v.problem) (type_of (sig_of v.problem) (at v.table i)) v.partial

-- the bytes were appended, with no refusal
abbrev pub Appended : {U E : Type 0} → List ℕ → List ℕ → List ℕ → Result U E → Type 0
Appended bytes old new (Ok u) = new ≡ old ++ bytes
Appended bytes old new (Err e) = ⊥

-- the value at the place i was appended, if it fits
pub record ValueWritten {U E : Type 0} (t : Code) (cases : List (Option Case)) (i : ℕ) (old new : List ℕ) (r : Result U E) : Type 0 where
  pub writes : (v : ValueAt t cases i) → length old + length (bytes_of v) ≤ most_bytes → Appended (bytes_of v) old new r

-- the model of the problem p that a way of these cases makes
pub record ModelAt (p : Problem) (t : Code) (cases : List (Option Case)) : Type 0 where
  pub table : Table
  pub count : ℕ
  pub way : Way
  pub stands : Stands p t table count
  pub decides : DecidesAs p t table way cases
  pub partials : Partials
  pub shows : ModelOf p (decided p table way) partials

abbrev pub Holds : {E : Type 0} → List ℕ → Result (ArrayVec ℕ) E → Type 0
Holds bytes (Ok v) = v.items ≡ bytes
Holds bytes (Err e) = ⊥

-- the bytes hold it, and they do fit
pub record ModelWritten {E : Type 0} (p : Problem) (t : Code) (cases : List (Option Case)) (r : Result (ArrayVec ℕ) E) : Type 0 where
  pub holds : (m : ModelAt p t cases) → Holds (written_model p m.partials) r
