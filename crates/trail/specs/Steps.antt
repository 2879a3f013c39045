-- What each call does to a trail, and to a search.
use Rattle.std.specs.Prelude.{◌≡◌, ℕ, ◌-◌, ◌/◌, ◌<◌, Bool, true, false, [], ◌∷◌, ◌++◌, length, take, slice_set}
use Rattle.trail.specs.declared.step.Reason.{Reason}
use Rattle.trail.specs.declared.step.Value.TheVariants.{Open}
use Rattle.trail.specs.declared.trail.Trail.{Trail}
use Rattle.trail.specs.declared.search.Search.{Search}
use Rattle.trail.specs.Values.{Free, making}
use Rattle.trail.specs.Trails.{literal_at}

pub record Put (t t' : Trail) (l : ℕ) (reason : Reason) : Type 0 where
  pub values : t'.values ≡ slice_set t.values (l / 2) (making l)
  pub positions : t'.positions ≡ slice_set t.positions (l / 2) (length t.steps.items)
  pub level : ℕ
  pub steps : t'.steps.items ≡ t.steps.items ++ record { literal = l; level = level; reason = reason } ∷ []

pub record TakenLast (t t' : Trail) (l : ℕ) : Type 0 where
  pub last : l ≡ literal_at t.steps.items (length t.steps.items - 1)
  pub values : t'.values ≡ slice_set t.values (l / 2) Open
  pub positions : t'.positions ≡ t.positions
  pub steps : t'.steps.items ≡ take (length t.steps.items - 1) t.steps.items

pub record Placed (s s' : Search) (l : ℕ) (reason : Reason) : Type 0 where
  pub within : length s.trail.steps.items < 4096
  pub level : ℕ
  pub steps : s'.trail.steps.items ≡ s.trail.steps.items ++ record { literal = l; level = level; reason = reason } ∷ []
  pub facts : s'.facts ≡ s.facts

abbrev pub Pushed : Search → Search → ℕ → Reason → Bool → Type 0
Pushed s s' l reason true = Placed s s' l reason
Pushed s s' l reason false = (s' ≡ s) × (Free s.trail.values l → ⊥)

pub record Popped (s s' : Search) (l : ℕ) : Type 0 where
  pub last : l ≡ literal_at s.trail.steps.items (length s.trail.steps.items - 1)
  pub steps : s'.trail.steps.items ≡ take (length s.trail.steps.items - 1) s.trail.steps.items
  pub values : s'.trail.values ≡ slice_set s.trail.values (l / 2) Open
  pub facts : s'.facts ≡ s.facts

pub record Cleared (s s' : Search) : Type 0 where
  pub steps : s'.trail.steps.items ≡ []
  pub facts : s'.facts ≡ s.facts
