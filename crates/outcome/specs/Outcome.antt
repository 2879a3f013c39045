-- What values come to that are held against the clauses of a row and the assumptions.
use Rattle.std.specs.Prelude.{◌≡◌, ℕ, ◌≤◌, Bool, true, false, ◌&&◌, List, length, Contains, slice_index}
use Rattle.chooser.specs.Ways.{lit, some, every, allotted, written, bits}
use Rattle.rows.specs.Rows.{inside, holds}
use Rattle.implied.specs.Implied.{allowed, Implied}
use Rattle.trail.specs.Trails.{Dead}
use Rattle.trail.specs.Values.{value_at, Free}
use Rattle.trail.specs.declared.step.Step.{Step}
use Rattle.trail.specs.declared.step.Value.{Value}
use Rattle.trail.specs.declared.step.Value.TheVariants.{False, True, Open}
use Rattle.outcome.specs.declared.Next.{Next}
use Rattle.outcome.specs.declared.Next.TheVariants.{Decide, Clash, Yes, No}

-- a question: the clauses and the assumptions are over `size` variables, 4,096 at most
pub record Question (row given : List ℕ) (size : ℕ) : Type 0 where
  pub few : size ≤ 4096
  pub sound : inside size 0 row ≡ true
  pub named : allotted size given ≡ true

-- the byte that an answer has for a value: 1 for true, else 0
abbrev pub byte_of : Value → ℕ
byte_of False = 0
byte_of True = 1
byte_of Open = 0

-- `out` writes the value of the variable k
abbrev pub Copied : List Value → List ℕ → ℕ → Type 0
Copied values out k = slice_index out k ≡ byte_of (value_at values k)

-- the clause is one that every allowed way meets, over the variables that `out` has, and `out` does not meet it
pub record Failing (row out clause : List ℕ) : Type 0 where
  pub known : Implied (allowed row) clause
  pub named : allotted (length out) clause ≡ true
  pub off : some (lit (written out)) clause ≡ false

-- `out` does not meet the assumption
pub record Missed (given out : List ℕ) (g : ℕ) : Type 0 where
  pub among : Contains given g
  pub off : lit (written out) g ≡ false

-- `out` writes an allowed way that meets the assumptions
pub record Hit (row given out : List ℕ) : Type 0 where
  pub binary : bits out ≡ true
  pub met : holds (lit (written out)) true 0 row ≡ true
  pub agreed : every (lit (written out)) given ≡ true

-- what an unmet clause leads to
abbrev pub Onto : ((ℕ → Bool) → Bool) → List Value → List Step → Next → Type 0
Onto X values steps (Decide l) = Free values l
Onto X values steps (Clash c) = Dead X steps
Onto X values steps Yes = ⊥
Onto X values steps No = ⊥

abbrev pub Concluded : List ℕ → List ℕ → List Value → List Step → List ℕ → Next → Type 0
Concluded row given values steps out (Decide l) = Free values l
Concluded row given values steps out (Clash c) = Dead (allowed row) steps
Concluded row given values steps out Yes = Hit row given out
Concluded row given values steps out No = (p : ℕ → Bool) → (allowed row p && every (lit p) given) ≡ false
