-- What constructors need by a table of least depths, and the table of needs. Assumes nothing.
use Rattle.std.specs.Prelude.{◌≡◌, ℕ, ◌+◌, ◌<◌, ◌≤◌, min, cond, List, [], length, nat_lt, slice_index, slice_index_or}
use Rattle.syntax.specs.Typing.{Sig, arguments}
use Rattle.syntax.specs.Values.{cost}
use Rattle.syntax.specs.Least.{greatest}

-- the depth that a table gives a type: 9, which says that no value is known, for a type that is not in it, and at most 9
abbrev pub depth_at : List ℕ → ℕ → ℕ
depth_at least t = cond (nat_lt t (length least)) (min (slice_index least t) 9) 9

-- what a constructor needs by a table
abbrev pub need_by : Sig → List ℕ → ℕ → ℕ → ℕ
need_by sig least t c = cost sig t c + greatest (depth_at least) (arguments sig t c)

-- the same for the constructors of one type, each by the types of its arguments
abbrev pub need_in : List ℕ → List (List ℕ) → ℕ → ℕ
need_in least cs c = 1 + greatest (depth_at least) (slice_index_or cs c [])

-- d is the least of the needs of n constructors, if that is at most 8, and else 9
pub record Easiest (needs : ℕ → ℕ) (n d : ℕ) : Type 0 where
  pub low : d ≤ 9
  pub least : (c : ℕ) → c < n → d ≤ needs c
  pub reached : d ≤ 8 → (c : ℕ) × (c < n) × (needs c ≡ d)

-- a row for each type, in it the need of each constructor; past the last constructor, that of a constant
abbrev pub Filled : (ℕ → ℕ → ℕ) → List (List ℕ) → Type 0
Filled need rows = (t c : ℕ) → t < length rows → c < 16 → slice_index (slice_index_or rows t []) c ≡ need t c
