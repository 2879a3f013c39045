-- What the table of least depths holds, also while it is filled. Assumes nothing.
use Rattle.std.specs.Prelude.{◌≡◌, ℕ, ◌<◌, ◌≤◌, List, length, Some, None, Option, slice_index}
use Rattle.syntax.specs.Typing.{Sig, Declared}
use Rattle.syntax.specs.Values.{Value, OfType, depth, Shallow}
use Rattle.syntax.specs.Least.{least_of}
use Rattle.depths.specs.Laws.{Inhabited}
use Rattle.depths.specs.Needs.{depth_at}

-- the least depth of each declared type, or 9 where no value is at most 8 deep
pub record Leasts (sig : Sig) (least : List ℕ) : Type 0 where
  pub long : length least ≡ length sig.types
  pub each : (t : ℕ) → Declared sig t → slice_index least t ≡ least_of sig t

-- every type has a value no deeper than 8, or t is the first that has none
abbrev pub FirstWithout : Sig → Option ℕ → Type 0
FirstWithout sig None = Inhabited sig
FirstWithout sig (Some t) = Declared sig t × (Shallow sig t 8 → ⊥) × ((u : ℕ) → u < t → Shallow sig u 8)

-- every entry is at most 8, or t is the first that is not
abbrev pub FirstUnknown : List ℕ → Option ℕ → Type 0
FirstUnknown least None = (u : ℕ) → u < length least → slice_index least u ≤ 8
FirstUnknown least (Some t) = (t < length least) × (8 < slice_index least t) × ((u : ℕ) → u < t → slice_index least u ≤ 8)

-- What the table says so far is true of some value, every value of a depth below k is accounted for,
-- and of the types below t every value of depth k too.
pub record Known (sig : Sig) (least : List ℕ) (k t : ℕ) : Type 0 where
  pub capped : (u : ℕ) → u < length least → slice_index least u ≤ 9
  pub sound : (u : ℕ) → depth_at least u ≤ 8 → Shallow sig u (depth_at least u)
  pub before : (u : ℕ) (v : Value) → OfType sig u v → depth sig u v < k → depth_at least u ≤ depth sig u v
  pub done : (u : ℕ) → u < t → (v : Value) → OfType sig u v → depth sig u v ≤ k → depth_at least u ≤ depth sig u v
