-- How steps are spent, and that judging obeys its rules at every number of steps. Assumes nothing.
use Rattle.std.specs.Prelude.{◌≡◌, ℕ, ◌+◌, ◌-◌, ◌<◌, ◌≤◌}
use Rattle.std.proofs.Math.Option.{none, some}
use Rattle.syntax.specs.Problems.{Problem}
use Rattle.judging.specs.Held.{Held}
use Rattle.judging.specs.Judging.{Unknowns, Head, Verdict, Judging, step, Asks, headed, compared, judge, compare}

-- A result of m with `left` of s steps left takes a number of steps of its own, at least one: with that many or more it is
-- the result, and the rest is left; with fewer, m is OUT.
pub record Takes {A : Type 0} (m : Judging A) (a : A) (s left : ℕ) : Type 0 where
  pub steps : ℕ
  pub some_steps : 1 ≤ steps
  pub total : steps + left ≡ s
  pub enough : (n : ℕ) → steps ≤ n → m n ≡ some (a, n - steps)
  pub fewer : (n : ℕ) → n < steps → m n ≡ none

abbrev pub JudgingTakes : Type 0 → Type 0
JudgingTakes U =
    (p : Problem) (K : Unknowns U) (h : Held U) (s left : ℕ) (a : Head U) → judge p K h s ≡ some (a, left)
    → Takes (judge p K h) a s left

abbrev pub ComparingTakes : Type 0 → Type 0
ComparingTakes U =
    (p : Problem) (K : Unknowns U) (l r : Held U) (s left : ℕ) (v : Verdict U) → compare p K l r s ≡ some (v, left)
    → Takes (compare p K l r) v s left

-- more steps change no answer
abbrev pub MoreSteps : Type 0 → Type 0
MoreSteps U =
    (p : Problem) (K : Unknowns U) (h : Held U) (s left : ℕ) (a : Head U) → judge p K h s ≡ some (a, left)
    → (k : ℕ) → judge p K h (s + k) ≡ some (a, left + k)

-- judging, as what the rules ask
abbrev pub itself : {U : Type 0} → Problem → Unknowns U → Asks U
itself p K = record { head = judge p K; comparing = compare p K }

-- The depth to which judging is defined says nothing: a judging is one step, and then its rule over the judgings that it asks for.
abbrev pub JudgeUnfolds : Type 0 → Type 0
JudgeUnfolds U = (p : Problem) (K : Unknowns U) (h : Held U) (s : ℕ) → judge p K h s ≡ step (headed p K (itself p K) h) s

abbrev pub CompareUnfolds : Type 0 → Type 0
CompareUnfolds U =
    (p : Problem) (K : Unknowns U) (l r : Held U) (s : ℕ) → compare p K l r s ≡ step (compared (itself p K) l r) s
