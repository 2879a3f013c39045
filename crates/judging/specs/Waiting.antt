-- A judging that waits is honest: what it waits on is undecided, and as things stand the meaning gives nothing either.
-- Assumes nothing.
use Rattle.std.specs.Prelude.{◌≡◌, ℕ}
use Rattle.std.proofs.Math.Option.{none, some}
use Rattle.syntax.specs.Problems.{Problem}
use Rattle.judging.specs.Held.{Held, Helds}
use Rattle.judging.specs.Judging.{Unknowns, waits, wait, judge, compare}
use Rattle.judging.specs.Meaning.{Yields, Same, Differs}

abbrev pub WaitsHonest : Type 0 → Type 0
WaitsHonest U =
    (p : Problem) (K : Unknowns U) (h : Held U) (s left : ℕ) (u : U) → judge p K h s ≡ some (waits u, left)
    → (K.chosen u ≡ none) × ((c : ℕ) (xs : Helds U) → Yields p K h c xs → ⊥)

abbrev pub WaitHonest : Type 0 → Type 0
WaitHonest U =
    (p : Problem) (K : Unknowns U) (l r : Held U) (s left : ℕ) (u : U) → compare p K l r s ≡ some (wait u, left)
    → (K.chosen u ≡ none) × (Same p K l r → ⊥) × (Differs p K l r → ⊥)
