-- Which unknowns of the problem a term names: in a lawful problem, only those that it declares. Assumes nothing.
use Rattle.std.specs.Prelude.{ℕ, ◌<◌, length, slice_index_or}
use Rattle.syntax.specs.Terms.{Term, var, unknown, con, call, case, both, not, equal, Terms, t[], ◌t∷◌}
use Rattle.syntax.specs.Problems.{Problem, Lawful}
use Rattle.judging.specs.Held.{missing, body_of}

-- every unknown that a term names is in N
abbrev mutual
  pub Scoped : (ℕ → Type 0) → Term → Type 0
  Scoped N (var v) = Unit {0}
  Scoped N (unknown k) = N k
  Scoped N (con t c ts) = AllScoped N ts
  Scoped N (call f ts) = AllScoped N ts
  Scoped N (case t a bs) = Scoped N a × AllScoped N bs
  Scoped N (both a b) = Scoped N a × Scoped N b
  Scoped N (not a) = Scoped N a
  Scoped N (equal t a b) = Scoped N a × Scoped N b

  pub AllScoped : (ℕ → Type 0) → Terms → Type 0
  AllScoped N t[] = Unit {0}
  AllScoped N (t t∷ ts) = Scoped N t × AllScoped N ts

abbrev pub Declares : Problem → ℕ → Type 0
Declares p k = k < length p.unknowns

abbrev pub LawfulScoped : Type 0
LawfulScoped =
    (p : Problem) → Lawful p
    → ((f : ℕ) → Scoped (Declares p) (body_of p f)) × ((g : ℕ) → Scoped (Declares p) (slice_index_or p.goals g missing))
