-- The laws of depth that a search rests on, and for which declarations they hold. Assumes nothing.
use Rattle.std.specs.Prelude.{◌≡◌, ℕ, ◌+◌, ◌<◌, ◌≤◌, length, slice_index}
use Rattle.syntax.specs.Typing.{Sig, Declared, constructors, arguments}
use Rattle.syntax.specs.Values.{Value, Values, build, OfType, cost, depth, deepest, Shallow}
use Rattle.syntax.specs.Least.{least_of, need_of}
use Rattle.syntax.specs.Problems.{Problem, sig_of, Lawful}

-- every declared type has a value no deeper than 8
abbrev pub Inhabited : Sig → Type 0
Inhabited sig = (t : ℕ) → Declared sig t → Shallow sig t 8

-- Costs, least depths and needs, by their laws alone.
pub record Depths (sig : Sig) : Type 0 where
  pub cost : ℕ → ℕ → ℕ  -- of a constructor: what it adds to the depth of its value
  pub least : ℕ → ℕ  -- of a type: the depth of its shallowest value
  pub need : ℕ → ℕ → ℕ  -- of a constructor: the least depth of a value that it builds
  pub easiest : ℕ → ℕ  -- a constructor of the type with the least need
  pub smallest : ℕ → Value  -- a value of the type with the least depth
  pub adds : (t c : ℕ) (vs : Values) → depth sig t (build c vs) ≡ cost t c + deepest sig (arguments sig t c) vs
  pub costs : (t c : ℕ) → 1 ≤ cost t c
  pub own : (t c : ℕ) → cost t c ≤ need t c
  pub needs : (t c : ℕ) (vs : Values) → OfType sig t (build c vs) → need t c ≤ depth sig t (build c vs)
  pub least_first : (t c : ℕ) → c < constructors sig t → least t ≤ need t c
  pub room : (t c j : ℕ) → j < length (arguments sig t c) → cost t c + least (slice_index (arguments sig t c) j) ≤ need t c
  pub easiest_is : (t : ℕ) → Declared sig t → easiest t < constructors sig t
  pub easiest_needs : (t : ℕ) → Declared sig t → need t (easiest t) ≡ least t
  pub smallest_is : (t : ℕ) → Declared sig t → OfType sig t (smallest t)
  pub smallest_depth : (t : ℕ) → Declared sig t → depth sig t (smallest t) ≡ least t

-- the computed least depths and needs obey the laws
abbrev pub DepthsStand : Sig → Type 0
DepthsStand sig = (D : Depths sig) × (D.cost ≡ cost sig) × (D.least ≡ least_of sig) × (D.need ≡ need_of sig)

-- every type that a constructor of a declared type takes is declared
abbrev pub Closed : Sig → Type 0
Closed sig =
    (t c j : ℕ) → Declared sig t → c < constructors sig t → j < length (arguments sig t c)
    → Declared sig (slice_index (arguments sig t c) j)

-- the types of a lawful problem have values and are closed
abbrev pub LawfulTypes : Type 0
LawfulTypes = (p : Problem) → Lawful p → Inhabited (sig_of p) × Closed (sig_of p)
