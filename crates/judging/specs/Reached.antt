-- Which paths are reached: judging from what is reached meets only what is reached, and no other decision counts.
-- Assumes nothing.
use Rattle.std.specs.Prelude.{◌≡◌, ℕ, ◌<◌, Bool, true, false, cond, ◌&&◌, List, length, ◌==◌}
use Rattle.std.proofs.Math.Option.{Option, none, some}
use Rattle.syntax.specs.Terms.{Term}
use Rattle.syntax.specs.Typing.{Sig, arguments}
use Rattle.syntax.specs.Problems.{Problem, sig_of}
use Rattle.judging.specs.Held.{Held, hold, free, Helds, h[], ◌h∷◌, goal}
use Rattle.judging.specs.Judging.{is, waits, judge, compare}
use Rattle.judging.specs.Paths.{Path, root, child, Decision, type_of, under}
use Rattle.judging.specs.Explained.{All}
use Rattle.judging.specs.Asked.{Asked}

-- u is reached: what it is an argument of is decided as u says, and so on up to the problem's unknown
abbrev pub Reached : Decision → Path → Type 0
Reached δ (root k) = Unit {0}
Reached δ (child u c j) = (δ u ≡ some c) × Reached δ u

-- u is of an unknown that the problem declares, and names arguments that its constructors have
abbrev pub Exists : Sig → Path → Type 0
Exists sig (root k) = k < length sig.unknowns
Exists sig (child u c j) = (j < length (arguments sig (type_of sig u) c)) × Exists sig u

-- What judging a goal asks for, by paths.
abbrev pub AskedPaths : Type 0
AskedPaths =
    (p : Problem) (δ : Decision) (u : Path)
    → (Asked p (under p δ) u → Reached δ u × Exists (sig_of p) u) × (Reached δ u → Exists (sig_of p) u → Asked p (under p δ) u)

-- Held terms all of whose unknowns are in G.
infixr 67 ◌w∷◌
mutual
  pub data Within {U : Type 0} (G : U → Type 0) : Held U → Type 0 where
    w_free : {u : U} → G u → Within G (free u)
    w_hold : {t : Term} {ρ : Helds U} → Withins G ρ → Within G (hold t ρ)

  pub data Withins {U : Type 0} (G : U → Type 0) : Helds U → Type 0 where
    w[] : Withins G h[]
    ◌w∷◌ : {h : Held U} {ρ : Helds U} → Within G h → Withins G ρ → Withins G (h h∷ ρ)

abbrev pub StaysReached : Type 0
StaysReached =
    (p : Problem) (δ : Decision) (h : Held Path) (s left c : ℕ) (xs : Helds Path) (E : List Path) → Within (Reached δ) h
    → judge p (under p δ) h s ≡ some (is c xs E, left) → All (Reached δ) E × Withins (Reached δ) xs

abbrev pub WaitsOnReached : Type 0
WaitsOnReached =
    (p : Problem) (δ : Decision) (h : Held Path) (s left : ℕ) (u : Path) → Within (Reached δ) h
    → judge p (under p δ) h s ≡ some (waits u, left) → Reached δ u

-- judging is the same under every decision that agrees on what is reached
abbrev pub OnlyReached : Type 0
OnlyReached =
    (p : Problem) (δ ε : Decision) (h : Held Path) → Within (Reached δ) h → ((u : Path) → Reached δ u → ε u ≡ δ u)
    → (s : ℕ) → judge p (under p ε) h s ≡ judge p (under p δ) h s

abbrev pub OnlyReachedCompare : Type 0
OnlyReachedCompare =
    (p : Problem) (δ ε : Decision) (l r : Held Path) → Within (Reached δ) l → Within (Reached δ) r
    → ((u : Path) → Reached δ u → ε u ≡ δ u) → (s : ℕ) → compare p (under p ε) l r s ≡ compare p (under p δ) l r s

-- δ, with what is not reached left undecided
abbrev pub says : Option ℕ → ℕ → Bool
says none c = false
says (some d) c = d == c

abbrev pub reached? : Decision → Path → Bool
reached? δ (root k) = true
reached? δ (child u c j) = says (δ u) c && reached? δ u

abbrev pub only_reached : Decision → Decision
only_reached δ u = cond (reached? δ u) (δ u) none

abbrev pub Restricted : Type 0
Restricted =
    (p : Problem) (δ : Decision) (h : Held Path) → Within (Reached δ) h
    → (s : ℕ) → judge p (under p (only_reached δ)) h s ≡ judge p (under p δ) h s

-- a goal has no unknowns of its own
abbrev pub GoalReached : Type 0
GoalReached = (p : Problem) (δ : Decision) (g : ℕ) → Within (Reached δ) (goal p g)
