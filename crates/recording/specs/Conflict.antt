-- The clause of a conflict as the code's table has it, and what recording it makes of a chooser. Assumes nothing.
use Rattle.std.specs.Prelude.{◌≡◌, ℕ, zero, suc, ◌+◌, ◌<◌, ◌≤◌, Bool, true, cond, List, [], ◌∷◌, ◌++◌, length, take, Some, None, Ok, Err, Option, Result, slice_index_or}
use Rattle.chooser.specs.Ways.{allotted}
use Rattle.chooser.specs.Meaning.{Meaning, Same}
use Rattle.chooser.specs.Faults.{fault_number}
use Rattle.chooser.specs.declared.Fault.{Fault}
use Rattle.chooser.specs.declared.Fault.TheVariants.{NoEntries}
use Rattle.syntax.specs.Problems.{Problem}
use Rattle.held.specs.Explanations.{contains}
use Rattle.finder.specs.Tables.{Table}
use Rattle.finder.specs.Ways.{Way}
use Rattle.finder.specs.Clauses.{off, Extended}
use Rattle.places.specs.Places.{marked_literals}
use Rattle.unknowns.specs.Listing.{row, Stands, DecidesAs}
use Rattle.unknowns.specs.declared.table.Table.{Table as Code}
use Rattle.unknowns.specs.declared.table.Case.{Case}

-- the literal that says that the case of an opened unknown differs
abbrev pub differing : Option ℕ → Option Case → List ℕ
differing None o = []
differing (Some a) None = []
differing (Some a) (Some x) = off (a + x.constructor) ∷ []

abbrev pub literal_at : Code → List (Option Case) → (ℕ → Bool) → ℕ → List ℕ
literal_at t cases marks i = cond (marks i) (differing (row t i).first (slice_index_or cases i None)) []

-- those of the first n unknowns that are marked
abbrev pub literals_below : Code → List (Option Case) → (ℕ → Bool) → ℕ → List ℕ
literals_below t cases marks zero = []
literals_below t cases marks (suc n) = literals_below t cases marks n ++ literal_at t cases marks n

abbrev pub clause_of : Code → List (Option Case) → (ℕ → Bool) → ℕ → List ℕ
clause_of t cases marks goal = off goal ∷ literals_below t cases marks t.len

-- a literal is written after the first `len`, if there is room
abbrev pub Appends : List ℕ → List ℕ → ℕ → ℕ → Option ℕ → Type 0
Appends old new len l None = length old ≤ len
Appends old new len l (Some n) = (n ≡ len + 1) × (n ≤ length new) × (take n new ≡ take len old ++ (l ∷ []))

-- The clause is written, as far as memory has room for it and each of its literals has 16 bits.
abbrev pub Writes : List ℕ → List ℕ → List ℕ → Option ℕ → Type 0
Writes clause old new None = length clause ≤ length old → allotted 32768 clause ≡ true → ⊥
Writes clause old new (Some n) = (n ≤ length new) × (take n new ≡ clause)

-- The clause is added, or too few entries are left for it and nothing changes.
abbrev pub Recorded : {U : Type 0} → Meaning → Meaning → List ℕ → Result U Fault → Type 0
Recorded M M' clause (Ok u) = (length clause + 1 ≤ M.left) × Extended M M' 0 (clause ∷ [])
Recorded M M' clause (Err e) = (M.left < length clause + 1) × Same M M' × (fault_number e ≡ fault_number NoEntries)

-- So it is for the clause of the conflict in each table that the code's table stands for, and each way that gives its unknowns
-- the cases, where memory has room for as many literals as there are variables.
pub record Records {U : Type 0} (M M' : Meaning) (t : Code) (cases : List (Option Case)) (words : List ℕ) (goal room : ℕ) (r : Result U Fault) : Type 0 where
  pub says : (p : Problem) (T : Table) (w : Way) → Stands p t T M.count → DecidesAs p t T w cases → goal < length p.goals
      → M.count ≤ room → Recorded M M' (off goal ∷ marked_literals p w (contains words) 0 T) r
