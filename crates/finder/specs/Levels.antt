-- How deep the unknowns lie, and which of them fit a depth. Assumes nothing.
use Rattle.std.specs.Prelude.{ℕ, ◌+◌, ◌-◌, ◌≤◌, Bool, false, ◌||◌, List, [], ◌∷◌, nat_le, nat_lt}
use Rattle.syntax.specs.Typing.{Sig}
use Rattle.syntax.specs.Values.{Values, cost, deepest}
use Rattle.syntax.specs.Least.{least_of, need_of}
use Rattle.syntax.specs.Problems.{Problem, sig_of}
use Rattle.depths.specs.Laws.{Depths}
use Rattle.judging.specs.Paths.{Path, root, child, type_of}

-- What depth is measured by: what a constructor adds to the depth of its value, the depth of a type's shallowest value, and
-- the least depth of a value that a constructor builds.
pub record Measures : Type 0 where
  pub cost : ℕ → ℕ → ℕ
  pub least : ℕ → ℕ
  pub need : ℕ → ℕ → ℕ

abbrev pub measures : Problem → Measures
measures p = record { cost = cost (sig_of p); least = least_of (sig_of p); need = need_of (sig_of p) }

-- the measures that the laws of depth speak of
abbrev pub measured : {sig : Sig} → Depths sig → Measures
measured D = record { cost = D.cost; least = D.least; need = D.need }

module _ (p : Problem) (d : Measures) where
  -- An unknown of the problem is at level 1; a child is deeper than its parent by what the parent's constructor costs.
  abbrev pub level : Path → ℕ
  level (root k) = 1
  level (child u c j) = level u + d.cost (type_of (sig_of p) u) c

  -- the depth that the case c of u reaches
  abbrev pub reach : Path → ℕ → ℕ
  reach u c = level u + d.need (type_of (sig_of p) u) c - 1

  -- u fits n: some value of its type reaches no deeper
  abbrev pub fits : ℕ → Path → Bool
  fits n u = nat_le (level u + d.least (type_of (sig_of p) u) - 1) n

abbrev pub any_deeper : Measures → ℕ → List ℕ → Bool
any_deeper d n [] = false
any_deeper d n (t ∷ ts) = nat_lt n (d.least t) || any_deeper d n ts

-- the least depth of some problem unknown's type is above n
abbrev pub too_shallow : Problem → Measures → ℕ → Bool
too_shallow p d n = any_deeper d n p.unknowns

-- no value of the assignment α is deeper than n
abbrev pub Within : Problem → ℕ → Values → Type 0
Within p n α = deepest (sig_of p) p.unknowns α ≤ n
