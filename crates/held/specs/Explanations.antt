-- Explanations as sets: which unknowns the code's sets have, and which a list has. Assumes nothing.
use Rattle.std.specs.Prelude.{◌≡◌, ℕ, ◌/◌, ◌%◌, ◌^◌, ◌<◌, Bool, false, ◌||◌, List, [], ◌∷◌, ◌==◌, slice_index}

-- bit k of a number
abbrev pub bit : ℕ → ℕ → Bool
bit n k = n / 2 ^ k % 2 == 1

-- the words of 64 bits have the bit of u
abbrev pub contains : List ℕ → ℕ → Bool
contains ws u = bit (slice_index ws (u / 64)) (u % 64)

abbrev pub member : List ℕ → ℕ → Bool
member [] u = false
member (v ∷ E) u = v == u || member E u

-- b has what a has and what is in E, as far as a set can: of the numbers below 512
pub record Adds (a b : List ℕ) (E : List ℕ) : Type 0 where
  pub has : (u : ℕ) → u < 512 → contains b u ≡ (contains a u || member E u)
