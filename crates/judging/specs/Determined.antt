-- The meaning is determined: one head at most, never both the same and different; and to decide more takes none of it back.
-- Assumes nothing.
use Rattle.std.specs.Prelude.{◌≡◌, ℕ}
use Rattle.std.proofs.Math.Option.{Option, some}
use Rattle.syntax.specs.Problems.{Problem}
use Rattle.judging.specs.Held.{Held, Helds}
use Rattle.judging.specs.Judging.{Unknowns}
use Rattle.judging.specs.Meaning.{Yields, Same, Differs}
use Rattle.judging.specs.Explained.{deciding}

abbrev pub OneHead : Type 0 → Type 0
OneHead U =
    (p : Problem) (K : Unknowns U) (h : Held U) (c d : ℕ) (xs ys : Helds U) → Yields p K h c xs → Yields p K h d ys
    → (c ≡ d) × (xs ≡ ys)

abbrev pub NotBoth : Type 0 → Type 0
NotBoth U = (p : Problem) (K : Unknowns U) (l r : Held U) → Same p K l r → Differs p K l r → ⊥

abbrev pub MoreDecided : Type 0 → Type 0
MoreDecided U =
    (p : Problem) (K : Unknowns U) (δ : U → Option ℕ) → ((u : U) (c : ℕ) → K.chosen u ≡ some c → δ u ≡ some c)
    → (h : Held U) (c : ℕ) (xs : Helds U) → Yields p K h c xs → Yields p (deciding K δ) h c xs
