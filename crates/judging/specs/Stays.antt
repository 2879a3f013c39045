-- A judged answer stays: no decision that agrees on its explanation gives another. Assumes nothing.
use Rattle.std.specs.Prelude.{◌≡◌, ℕ, List, ◌≢◌}
use Rattle.std.proofs.Math.Option.{Option, some}
use Rattle.syntax.specs.Problems.{Problem}
use Rattle.judging.specs.Held.{Held, Helds}
use Rattle.judging.specs.Judging.{Unknowns, Head, is, judge}
use Rattle.judging.specs.Explained.{deciding, Agrees}

-- judged false with E: judged true under no decision that agrees on E, with any number of steps
abbrev pub FalseStays : Type 0 → Type 0
FalseStays U =
    (p : Problem) (K : Unknowns U) (h : Held U) (s left : ℕ) (xs : Helds U) (E : List U)
    → judge p K h s ≡ some (is 0 xs E, left) → (δ : U → Option ℕ) → Agrees K δ E
    → (s' left' : ℕ) (ys : Helds U) (F : List U) → judge p (deciding K δ) h s' ≢ some (is 1 ys F, left')

-- any other judging under such a decision gives the same head, or is out of steps
abbrev pub AnswerStays : Type 0 → Type 0
AnswerStays U =
    (p : Problem) (K : Unknowns U) (h : Held U) (s left c : ℕ) (xs : Helds U) (E : List U)
    → judge p K h s ≡ some (is c xs E, left) → (δ : U → Option ℕ) → Agrees K δ E
    → (s' left' : ℕ) (a : Head U) → judge p (deciding K δ) h s' ≡ some (a, left') → (F : List U) × (a ≡ is c xs F)
