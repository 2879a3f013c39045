-- Which unknowns judging a goal asks for, and that no others count. Assumes nothing.
use Rattle.std.specs.Prelude.{◌≡◌, ℕ, ◌<◌, List, ◌∷◌, length}
use Rattle.std.proofs.Math.Option.{none, some}
use Rattle.syntax.specs.Problems.{Problem, Lawful}
use Rattle.judging.specs.Held.{Held, Helds, goal}
use Rattle.judging.specs.Judging.{Unknowns, is, waits, same, differ, judge, compare}
use Rattle.judging.specs.Explained.{All}

infix 40 ◌∈◌
pub data ◌∈◌ {U : Type 0} (u : U) : List U → Type 0 where
  first : {E : List U} → u ∈ (u ∷ E)
  later : {v : U} {E : List U} → u ∈ E → u ∈ (v ∷ E)

-- the unknowns of the problem, and the children of what is asked for and decided
pub data Asked {U : Type 0} (p : Problem) (K : Unknowns U) : U → Type 0 where
  asked_root : {k : ℕ} → k < length p.unknowns → Asked p K (K.roots k)
  asked_kid : {u v : U} {c : ℕ} → Asked p K u → K.chosen u ≡ some c → v ∈ K.kids u c → Asked p K v

abbrev pub Decided : {U : Type 0} → Unknowns U → U → Type 0
Decided K u = (c : ℕ) × (K.chosen u ≡ some c)

-- every unknown in an explanation is decided
abbrev pub ExplainedDecided : Type 0 → Type 0
ExplainedDecided U =
    (p : Problem) (K : Unknowns U) (h : Held U) (s left c : ℕ) (xs : Helds U) (E : List U)
    → judge p K h s ≡ some (is c xs E, left) → All (Decided K) E

abbrev pub SameDecided : Type 0 → Type 0
SameDecided U =
    (p : Problem) (K : Unknowns U) (l r : Held U) (s left : ℕ) (E : List U) → compare p K l r s ≡ some (same E, left)
    → All (Decided K) E

abbrev pub DifferDecided : Type 0 → Type 0
DifferDecided U =
    (p : Problem) (K : Unknowns U) (l r : Held U) (s left : ℕ) (E : List U) → compare p K l r s ≡ some (differ E, left)
    → All (Decided K) E

-- what explains a goal is asked for and decided
abbrev pub GoalAsked : Type 0 → Type 0
GoalAsked U =
    (p : Problem) → Lawful p → (K : Unknowns U) (g s left c : ℕ) (xs : Helds U) (E : List U)
    → judge p K (goal p g) s ≡ some (is c xs E, left) → All (λ u. Asked p K u × Decided K u) E

-- what a goal waits on is asked for and undecided
abbrev pub GoalAwaits : Type 0 → Type 0
GoalAwaits U =
    (p : Problem) → Lawful p → (K : Unknowns U) (g s left : ℕ) (u : U) → judge p K (goal p g) s ≡ some (waits u, left)
    → Asked p K u × (K.chosen u ≡ none)

-- L is as K, as far as judging a goal asks
pub record Alike {U : Type 0} (p : Problem) (K L : Unknowns U) : Type 0 where
  pub at_roots : (k : ℕ) → k < length p.unknowns → K.roots k ≡ L.roots k
  pub at_kids : (u : U) (c : ℕ) → Asked p K u → K.chosen u ≡ some c → K.kids u c ≡ L.kids u c
  pub at_chosen : (u : U) → Asked p K u → L.chosen u ≡ K.chosen u

abbrev pub OnlyAsked : Type 0 → Type 0
OnlyAsked U =
    (p : Problem) → Lawful p → (K L : Unknowns U) → Alike p K L → (g s : ℕ) → judge p L (goal p g) s ≡ judge p K (goal p g) s
