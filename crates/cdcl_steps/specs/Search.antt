-- What the steps of a search leave, and what it ends by.
use Rattle.std.specs.Prelude.{◌≡◌, List, ◌∷◌, [], ◌++◌, Bool, true, false, ℕ, ◌+◌, ◌-◌, ◌*◌, ◌^◌, ◌<◌, ◌≢◌, length, take}
use Rattle.weight.specs.Weight.{weight}
use Rattle.implied.specs.Implied.{allowed}
use Rattle.trail.specs.declared.step.Reason.TheVariants.{Decision}
use Rattle.trail.specs.declared.step.Step.{Step}
use Rattle.trail.specs.declared.search.Search.{Search}
use Rattle.trail.specs.Trails.{step_at, digits_of}

-- the trail was cut at the decision k, and a literal that follows put there
pub record Jumped (s s' : Search) : Type 0 where
  pub k : ℕ
  pub before : k < length s.trail.steps.items
  pub decision : (step_at s.trail.steps.items k).reason ≡ Decision
  pub step : Step
  pub forced : step.reason ≢ Decision
  pub steps : s'.trail.steps.items ≡ take k s.trail.steps.items ++ step ∷ []

-- no way is allowed
abbrev pub Empty : List ℕ → Type 0
Empty row = (p : ℕ → Bool) → allowed row p ≡ false

abbrev pub Jumps : Search → Search → Bool → Type 0
Jumps s s' true = Jumped s s'
Jumps s s' false = Empty s.facts.store.row.items

-- no trail weighs as much
unfoldable pub top : ℕ
top = 3 ^ 4096

-- what is left: restarts, and what the trail's weight has to its bound
abbrev pub measure : ℕ → List Step → ℕ
measure fuel steps = fuel * top + (top - weight 4096 (digits_of steps))
