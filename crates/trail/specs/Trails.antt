-- A trail of literals over the ways that X allows, as lists: the variables' values, where they stand, and the steps.
use Rattle.std.specs.Prelude.{◌≡◌, ℕ, ◌+◌, ◌/◌, ◌<◌, ◌≤◌, Bool, true, List, length, map, ◌≢◌, slice_index, slice_index_or}
use Rattle.chooser.specs.Ways.{lit}
use Rattle.weight.specs.Weight.{weight}
use Rattle.trail.specs.declared.step.Value.{Value}
use Rattle.trail.specs.declared.step.Reason.{Reason}
use Rattle.trail.specs.declared.step.Reason.TheVariants.{Decision, Known, Clause}
use Rattle.trail.specs.declared.step.Step.{Step}
use Rattle.trail.specs.Values.{Holds, opens}

abbrev pub step_at : List Step → ℕ → Step
step_at steps j = slice_index_or steps j (record { literal = 0; level = 0; reason = Known })

abbrev pub literal_at : List Step → ℕ → ℕ
literal_at steps j = (step_at steps j).literal

-- the first i literals are true
abbrev pub Along : (ℕ → Bool) → List Step → ℕ → Type 0
Along p steps i = (j : ℕ) → j < i → lit p (literal_at steps j) ≡ true

-- an allowed way along the first i literals makes l true
abbrev pub Follows : ((ℕ → Bool) → Bool) → List Step → ℕ → ℕ → Type 0
Follows X steps i l = (p : ℕ → Bool) → X p ≡ true → Along p steps i → lit p l ≡ true

-- no allowed way is along the steps
abbrev pub Dead : ((ℕ → Bool) → Bool) → List Step → Type 0
Dead X steps = (p : ℕ → Bool) → X p ≡ true → Along p steps (length steps) → ⊥

pub record Sound (X : (ℕ → Bool) → Bool) (values : List Value) (positions : List ℕ) (steps : List Step) : Type 0 where
  pub wide : length values ≡ 4096
  pub placed : length positions ≡ 4096
  -- a literal that is no decision follows from those before it
  pub grounded : (j : ℕ) → j < length steps → ((step_at steps j).reason ≢ Decision) → Follows X steps j (literal_at steps j)
  -- a literal that is true stands at its variable's place
  pub shown : (l : ℕ) → Holds values l → (slice_index positions (l / 2) < length steps) × (literal_at steps (slice_index positions (l / 2)) ≡ l)
  pub named : (j : ℕ) → j < length steps → literal_at steps j < 8192
  -- an open variable leaves the trail a place
  pub room : opens values + length steps ≤ 4096

-- the digit of a step in the trail's weight: 1 for a decision, 2 for a literal that follows
abbrev pub digit : Reason → ℕ
digit Decision = 1
digit Known = 2
digit (Clause c) = 2

abbrev pub digits_of : List Step → List ℕ
digits_of steps = map (λ (s : Step). digit s.reason) steps

-- a trail that only grew, by literals that follow
pub record Grew (steps steps' : List Step) : Type 0 where
  pub more : length steps ≤ length steps'
  pub same : (j : ℕ) → j < length steps → step_at steps' j ≡ step_at steps j
  pub forced : (j : ℕ) → length steps ≤ j → j < length steps' → (step_at steps' j).reason ≢ Decision
  pub up : weight 4096 (digits_of steps) ≤ weight 4096 (digits_of steps')
