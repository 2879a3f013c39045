-- What each call does to a chooser's meaning, and when it refuses: one relation for each call. A refusal is a number that
-- the meaning and the arguments determine, 0 for none.
use Rattle.std.specs.Prelude.{◌≡◌, ℕ, ◌+◌, ◌≤◌, Bool, true, false, cond, ◌&&◌, List, length, Ok, Err, Result, ◌==◌, nat_le}
use Rattle.chooser.specs.Ways.{lit, some, every, allotted, written, bits}
use Rattle.chooser.specs.Meaning.{Meaning, Same}
use Rattle.chooser.specs.Faults.{fault_number}
use Rattle.chooser.specs.declared.Fault.{Fault}
use Rattle.chooser.specs.declared.Fault.TheVariants.{NoVariable, Unallotted, NoEntries, WrongLength}
use Rattle.chooser.specs.declared.Answer.{Answer}
use Rattle.chooser.specs.declared.Answer.TheVariants.{Yes, No}

-- which refusal a call meets, in the order of the tests

abbrev pub new_refusal : Meaning → ℕ
new_refusal s = cond (s.room == 0) (fault_number NoVariable) 0

abbrev pub add_refusal : Meaning → List ℕ → ℕ
add_refusal s clause =
    cond (allotted s.count clause) (cond (nat_le (length clause + 1) s.left) 0 (fault_number NoEntries)) (fault_number Unallotted)

abbrev pub ask_refusal : Meaning → List ℕ → List ℕ → ℕ
ask_refusal s assumptions answer =
    cond (allotted s.count assumptions) (cond (length answer == s.count) 0 (fault_number WrongLength)) (fault_number Unallotted)

-- what an accepted call does

pub record Grown (s t : Meaning) (v : ℕ) : Type 0 where
  pub names : v ≡ s.count
  pub counts : t.count ≡ s.count + 1
  pub rooms : t.room + 1 ≡ s.room
  pub leaves : t.left ≡ s.left
  pub allows : (p : ℕ → Bool) → t.ways p ≡ s.ways p

pub record Added (s t : Meaning) (clause : List ℕ) : Type 0 where
  pub named : allotted s.count clause ≡ true
  pub fits : length clause + 1 ≤ s.left
  pub counts : t.count ≡ s.count
  pub rooms : t.room ≡ s.room
  pub shrinks : t.left ≤ s.left
  pub spends : s.left ≤ t.left + (length clause + 1)
  pub allows : (p : ℕ → Bool) → t.ways p ≡ (s.ways p && some (lit p) clause)

-- `out` writes an allowed way that meets the assumptions
pub record Chosen (s : Meaning) (assumptions : List ℕ) (out : List ℕ) : Type 0 where
  pub binary : bits out ≡ true
  pub allowed : s.ways (written out) ≡ true
  pub meets : every (lit (written out)) assumptions ≡ true

abbrev pub Answered : Meaning → List ℕ → List ℕ → Answer → Type 0
Answered s assumptions out Yes = Chosen s assumptions out
Answered s assumptions out No = (p : ℕ → Bool) → (s.ways p && every (lit p) assumptions) ≡ false

pub record Asked (s : Meaning) (assumptions : List ℕ) (old out : List ℕ) (a : Answer) : Type 0 where
  pub named : allotted s.count assumptions ≡ true
  pub fits : length old ≡ s.count
  pub answers : Answered s assumptions out a

-- the calls

abbrev pub NewVariable : Meaning → Meaning → Result ℕ Fault → Type 0
NewVariable s t (Ok v) = Grown s t v
NewVariable s t (Err e) = Same s t × (fault_number e ≡ new_refusal s)

abbrev pub Add : {U : Type 0} → Meaning → Meaning → List ℕ → Result U Fault → Type 0
Add s t clause (Ok u) = Added s t clause
Add s t clause (Err e) = Same s t × (fault_number e ≡ add_refusal s clause)

abbrev pub Ask : Meaning → List ℕ → List ℕ → List ℕ → Result Answer Fault → Type 0
Ask s assumptions old out (Ok a) = Asked s assumptions old out a
Ask s assumptions old out (Err e) = (out ≡ old) × (fault_number e ≡ ask_refusal s assumptions old)
