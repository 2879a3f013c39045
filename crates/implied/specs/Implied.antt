-- What is known of the allowed ways: clauses that each of them meets, literals that each of them makes false. X says which
-- ways are allowed.
use Rattle.std.specs.Prelude.{◌≡◌, ℕ, ◌<◌, Bool, true, false, List, [], length, slice_index_or}
use Rattle.chooser.specs.Ways.{lit, some}
use Rattle.rows.specs.Rows.{holds}

-- the ways that meet each clause of the row
abbrev pub allowed : List ℕ → (ℕ → Bool) → Bool
allowed row p = holds (lit p) true 0 row

-- every allowed way meets the clause
abbrev pub Implied : ((ℕ → Bool) → Bool) → List ℕ → Type 0
Implied X clause = (p : ℕ → Bool) → X p ≡ true → some (lit p) clause ≡ true

-- every allowed way meets each clause of the list
abbrev pub Met : ((ℕ → Bool) → Bool) → List (List ℕ) → Type 0
Met X clauses = (c : ℕ) → c < length clauses → Implied X (slice_index_or clauses c [])

-- a literal that is marked is false at every allowed way
abbrev pub Off : ((ℕ → Bool) → Bool) → List Bool → Type 0
Off X off = (m : ℕ) → slice_index_or off m false ≡ true → (p : ℕ → Bool) → X p ≡ true → lit p m ≡ false
