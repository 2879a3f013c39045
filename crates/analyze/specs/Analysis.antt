-- What is drawn from a clash, over the ways that X allows.
use Rattle.std.specs.Prelude.{◌≡◌, ℕ, ◌/◌, ◌<◌, ◌≤◌, Bool, true, false, ◌⊎◌, List, length, Some, None, Option, slice_index, slice_index_or}
use Rattle.chooser.specs.Ways.{lit}
use Rattle.rows.specs.Lits.{Turned}
use Rattle.implied.specs.Implied.{Implied}
use Rattle.trail.specs.declared.step.Reason.TheVariants.{Decision}
use Rattle.trail.specs.declared.step.Step.{Step}
use Rattle.trail.specs.Trails.{step_at, literal_at, Follows}

-- some literal of the trail's first i, which is seen, is false
abbrev pub Wrong : (ℕ → Bool) → List Step → List Bool → ℕ → Type 0
Wrong p steps seen i = (j : ℕ) × (j < i) × (slice_index_or seen (literal_at steps j / 2) false ≡ true) × (lit p (literal_at steps j) ≡ false)

abbrev pub Grows : List Bool → List Bool → Type 0
Grows a b = (v : ℕ) → slice_index_or a v false ≡ true → slice_index_or b v false ≡ true

-- an allowed way makes a seen literal false, or the literal that was left out true
abbrev pub Absorbed : ((ℕ → Bool) → Bool) → List Step → List Bool → ℕ → Option ℕ → Type 0
Absorbed X steps seen i None = (p : ℕ → Bool) → X p ≡ true → Wrong p steps seen i
Absorbed X steps seen i (Some l) = (p : ℕ → Bool) → X p ≡ true → Wrong p steps seen i ⊎ (lit p l ≡ true)

-- the literals of the clause but the first are false below the place k, and the opposite of the first stands from k on
pub record Opposed (steps : List Step) (clause : List ℕ) (k : ℕ) : Type 0 where
  pub some : 0 < length clause
  pub first : (j : ℕ) × (k ≤ j) × (j < length steps) × Turned (literal_at steps j) (slice_index clause 0)
  pub others : (q : ℕ) → q < length clause → 0 < q → (j : ℕ) × (j < k) × Turned (literal_at steps j) (slice_index clause q)

-- where to jump back to: the decision k, behind which the clause's first literal follows
pub record Place (X : (ℕ → Bool) → Bool) (steps : List Step) (clause : List ℕ) (k : ℕ) : Type 0 where
  pub some : 0 < length clause
  pub before : k < length steps
  pub decision : (step_at steps k).reason ≡ Decision
  pub follows : Follows X steps k (slice_index clause 0)
  pub first : (j : ℕ) × (k ≤ j) × (j < length steps) × Turned (literal_at steps j) (slice_index clause 0)

-- a clause was drawn, and a place to jump back to; or no way is allowed
abbrev pub Jump : ((ℕ → Bool) → Bool) → List Step → List ℕ → Option ℕ → Type 0
Jump X steps clause None = (p : ℕ → Bool) → X p ≡ true → ⊥
Jump X steps clause (Some k) = Implied X clause × Place X steps clause k
