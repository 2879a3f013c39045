-- How the working memory grows. Assumes nothing.
use Rattle.std.specs.Prelude.{◌≡◌, ℕ, ◌+◌, ◌≤◌, length}
use Rattle.held.specs.declared.memory.Memory.{Memory}
use Rattle.held.specs.Standing.{Same}

-- up to so many places were taken into use, of as many as before, and what stood in those in use stands
pub record Grown (many : ℕ) (a b : Memory) : Type 0 where
  pub long : length b.places.now ≡ length a.places.now
  pub top : a.top ≤ b.top
  pub few : b.top ≤ a.top + many
  pub same : Same a.places.now b.places.now a.top
