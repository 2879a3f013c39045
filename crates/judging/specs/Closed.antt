-- Explanations are closed under parents: what explains an answer came from what explains it too. Assumes nothing.
use Rattle.std.specs.Prelude.{◌≡◌, ℕ, ◌⊎◌, List}
use Rattle.std.proofs.Math.Option.{some}
use Rattle.syntax.specs.Terms.{Term}
use Rattle.syntax.specs.Problems.{Problem}
use Rattle.judging.specs.Held.{Held, hold, Helds, h[]}
use Rattle.judging.specs.Judging.{is, same, differ, judge, compare}
use Rattle.judging.specs.Paths.{Path, root, child, Decision, under}
use Rattle.judging.specs.Asked.{◌∈◌}
use Rattle.judging.specs.Reached.{Within}

-- the parent of u, if it has one, is in R and is decided as u says
abbrev pub Below : Decision → (Path → Type 0) → Path → Type 0
Below δ R (root k) = Unit {0}
Below δ R (child u c j) = R u × (δ u ≡ some c)

-- S holds the parents of the held term's own unknowns.
abbrev pub Closed : Type 0
Closed =
    (p : Problem) (δ : Decision) (S : List Path) (h : Held Path) (s left c : ℕ) (xs : Helds Path) (E : List Path)
    → Within (Below δ (λ u. u ∈ S)) h → judge p (under p δ) h s ≡ some (is c xs E, left)
    → (u : Path) (d j : ℕ) → child u d j ∈ E → ((u ∈ E) ⊎ (u ∈ S)) × (δ u ≡ some d)

abbrev pub ClosedCompare : Type 0
ClosedCompare =
    (p : Problem) (δ : Decision) (S : List Path) (l r : Held Path) (s left : ℕ) (E : List Path)
    → Within (Below δ (λ u. u ∈ S)) l → Within (Below δ (λ u. u ∈ S)) r
    → (compare p (under p δ) l r s ≡ some (same E, left)) ⊎ (compare p (under p δ) l r s ≡ some (differ E, left))
    → (u : Path) (d j : ℕ) → child u d j ∈ E → ((u ∈ E) ⊎ (u ∈ S)) × (δ u ≡ some d)

-- The explanation of a term without variables holds, with each unknown, the one that it is an argument of, decided as it says.
abbrev pub GoalClosed : Type 0
GoalClosed =
    (p : Problem) (δ : Decision) (t : Term) (s left c : ℕ) (xs : Helds Path) (E : List Path)
    → judge p (under p δ) (hold t h[]) s ≡ some (is c xs E, left)
    → (u : Path) (d j : ℕ) → child u d j ∈ E → (u ∈ E) × (δ u ≡ some d)
