-- What an explanation is worth: the answer holds under every decision that agrees on it. Each claim is made for a type of
-- unknowns. Assumes nothing.
use Rattle.std.specs.Prelude.{◌≡◌, ℕ, List, [], ◌∷◌}
use Rattle.std.proofs.Math.Option.{Option, some}
use Rattle.syntax.specs.Problems.{Problem}
use Rattle.judging.specs.Held.{Held, Helds}
use Rattle.judging.specs.Judging.{Unknowns, is, same, differ, judge, compare}
use Rattle.judging.specs.Meaning.{Yields, Same, Differs}

infixr 67 ◌all∷◌
pub data All {U : Type 0} (Q : U → Type 0) : List U → Type 0 where
  all[] : All Q []
  ◌all∷◌ : {u : U} {E : List U} → Q u → All Q E → All Q (u ∷ E)

-- the same unknowns, with other ones decided
abbrev pub deciding : {U : Type 0} → Unknowns U → (U → Option ℕ) → Unknowns U
deciding K δ = record { roots = K.roots; kids = K.kids; chosen = δ }

-- δ decides each unknown of E as K does
abbrev pub Agrees : {U : Type 0} → Unknowns U → (U → Option ℕ) → List U → Type 0
Agrees K δ E = All (λ u. δ u ≡ K.chosen u) E

-- a head judged with the explanation E is what the term yields under every decision that agrees on E
abbrev pub HeadExplained : Type 0 → Type 0
HeadExplained U =
    (p : Problem) (K : Unknowns U) (h : Held U) (s left c : ℕ) (xs : Helds U) (E : List U)
    → judge p K h s ≡ some (is c xs E, left) → (δ : U → Option ℕ) → Agrees K δ E → Yields p (deciding K δ) h c xs

abbrev pub SameExplained : Type 0 → Type 0
SameExplained U =
    (p : Problem) (K : Unknowns U) (l r : Held U) (s left : ℕ) (E : List U) → compare p K l r s ≡ some (same E, left)
    → (δ : U → Option ℕ) → Agrees K δ E → Same p (deciding K δ) l r

abbrev pub DifferExplained : Type 0 → Type 0
DifferExplained U =
    (p : Problem) (K : Unknowns U) (l r : Held U) (s left : ℕ) (E : List U) → compare p K l r s ≡ some (differ E, left)
    → (δ : U → Option ℕ) → Agrees K δ E → Differs p (deciding K δ) l r
