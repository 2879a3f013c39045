-- A trail of which the literals from the place k on were taken back.
use Rattle.std.specs.Prelude.{◌≡◌, ℕ, ◌<◌, ◌≤◌, length, take}
use Rattle.trail.specs.Trails.{literal_at}
use Rattle.trail.specs.Values.{Free}
use Rattle.trail.specs.declared.search.Search.{Search}

pub record Kept (s s' : Search) (k : ℕ) : Type 0 where
  pub steps : s'.trail.steps.items ≡ take k s.trail.steps.items
  pub facts : s'.facts ≡ s.facts
  pub freed : (j : ℕ) → k ≤ j → j < length s.trail.steps.items → Free s'.trail.values (literal_at s.trail.steps.items j)
