-- What a formula comes to that is put to a chooser: variables to be allotted, and clauses in a row.
use Rattle.std.specs.Prelude.{◌≡◌, ℕ, ◌+◌, ◌≤◌, Bool, true, false, cond, ◌&&◌, List, length, Ok, Err, Result, ◌==◌, nat_le}
use Rattle.chooser.specs.Ways.{lit, written, bits}
use Rattle.chooser.specs.Meaning.{Meaning, Same}
use Rattle.chooser.specs.Faults.{fault_number}
use Rattle.chooser.specs.declared.Fault.{Fault}
use Rattle.chooser.specs.declared.Fault.TheVariants.{NoVariable, Unallotted, NoEntries, WrongLength}
use Rattle.chooser.specs.declared.Answer.{Answer}
use Rattle.chooser.specs.declared.Answer.TheVariants.{Yes, No}
use Rattle.rows.specs.Rows.{inside, holds}

-- variables were allotted, and nothing else
pub record Taken (s t : Meaning) (variables : ℕ) : Type 0 where
  pub counts : t.count ≡ s.count + variables
  pub rooms : t.room + variables ≡ s.room
  pub leaves : t.left ≡ s.left
  pub allows : (p : ℕ → Bool) → t.ways p ≡ s.ways p

-- the clauses of the row were added, and nothing else
pub record Narrowed (s t : Meaning) (row : List ℕ) : Type 0 where
  pub counts : t.count ≡ s.count
  pub rooms : t.room ≡ s.room
  pub shrinks : t.left ≤ s.left
  pub spends : s.left ≤ t.left + length row
  pub allows : (p : ℕ → Bool) → t.ways p ≡ (s.ways p && holds (lit p) true 0 row)

-- a call that is never refused
abbrev pub Accepted : {U : Type 0} → Type 0 → Result U Fault → Type 0
Accepted done (Ok u) = done
Accepted done (Err e) = ⊥

abbrev pub decide_refusal : Meaning → ℕ → List ℕ → List ℕ → ℕ
decide_refusal s variables row answer =
    cond (nat_le variables s.room)
    (cond (inside (s.count + variables) 0 row)
    (cond (nat_le (length row) s.left)
    (cond (length answer == s.count + variables) 0 (fault_number WrongLength))
    (fault_number NoEntries))
    (fault_number Unallotted))
    (fault_number NoVariable)

-- `out` writes a way that was allowed and meets every clause
pub record Model (s : Meaning) (row out : List ℕ) : Type 0 where
  pub binary : bits out ≡ true
  pub allowed : s.ways (written out) ≡ true
  pub meets : holds (lit (written out)) true 0 row ≡ true

abbrev pub Found : Meaning → List ℕ → List ℕ → Answer → Type 0
Found s row out Yes = Model s row out
Found s row out No = (p : ℕ → Bool) → (s.ways p && holds (lit p) true 0 row) ≡ false

pub record Settled (s t : Meaning) (variables : ℕ) (row old out : List ℕ) (a : Answer) : Type 0 where
  pub accepted : decide_refusal s variables row old ≡ 0
  pub counts : t.count ≡ s.count + variables
  pub rooms : t.room + variables ≡ s.room
  pub shrinks : t.left ≤ s.left
  pub spends : s.left ≤ t.left + length row
  pub allows : (p : ℕ → Bool) → t.ways p ≡ (s.ways p && holds (lit p) true 0 row)
  pub finds : Found s row out a

abbrev pub Decided : Meaning → Meaning → ℕ → List ℕ → List ℕ → List ℕ → Result Answer Fault → Type 0
Decided s t variables row old out (Ok a) = Settled s t variables row old out a
Decided s t variables row old out (Err e) = Same s t × (out ≡ old) × (fault_number e ≡ decide_refusal s variables row old)
