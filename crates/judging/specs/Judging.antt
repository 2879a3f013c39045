-- The definition of judging, with its steps. Assumes nothing.
use Rattle.std.specs.Prelude.{ℕ, zero, suc, Bool, true, false, List, [], ◌∷◌, ◌++◌, ◌==◌}
use Rattle.std.proofs.Math.Option.{Option, none, some}
use Rattle.syntax.specs.Terms.{var, unknown, con, call, case, both, not, equal, Terms}
use Rattle.syntax.specs.Problems.{Problem}
use Rattle.judging.specs.Held.{Held, hold, free, Helds, h[], ◌h∷◌, branch, body_of, bound, holds, frees, ◌h++◌}

-- What the unknowns are: those of the problem by number, the children of one that has a constructor, and the constructor
-- that is chosen for one that is decided.
pub record Unknowns (U : Type 0) : Type 0 where
  pub roots : ℕ → U
  pub kids : U → ℕ → List U
  pub chosen : U → Option ℕ

-- The head of a held term: a constructor with held arguments, and its explanation, the set of unknowns whose chosen
-- constructor was used, as a list that may name one more than once; or the unknown that it waits on.
pub data Head (U : Type 0) : Type 0 where
  is : (c : ℕ) → Helds U → List U → Head U
  waits : U → Head U

-- What comparing two held terms comes to: the same or different, with an explanation, or waiting.
pub data Verdict (U : Type 0) : Type 0 where
  same : List U → Verdict U
  differ : List U → Verdict U
  wait : U → Verdict U

-- A judging is given the steps that are left. It gives a result and the steps left then, or it is OUT of steps.
abbrev pub Judging : Type 0 → Type 0
Judging A = ℕ → Option (A × ℕ)

abbrev pub out : {A : Type 0} → Judging A
out s = none

abbrev pub give : {A : Type 0} → A → Judging A
give a s = some (a, s)

abbrev pub go_on : {A B : Type 0} → (A → Judging B) → Option (A × ℕ) → Option (B × ℕ)
go_on f none = none
go_on f (some r) = f r.0 r.1

-- OUT anywhere is OUT everywhere.
infixl 20 ◌then◌
abbrev pub ◌then◌ : {A B : Type 0} → Judging A → (A → Judging B) → Judging B
◌then◌ m f s = go_on f (m s)

-- what a step is paid for
abbrev pub step : {A : Type 0} → Judging A → Judging A
step m zero = none
step m (suc s) = m s

-- What the rules ask of one another: the head of a held term, and whether two are the same. Each costs a step.
pub record Asks (U : Type 0) : Type 0 where
  pub head : Held U → Judging (Head U)
  pub comparing : Held U → Held U → Judging (Verdict U)

module _ {U : Type 0} where
  -- an unknown, and what is chosen for it
  abbrev pub of_unknown : Unknowns U → U → Option ℕ → Head U
  of_unknown K u none = waits u
  of_unknown K u (some c) = is c (frees (K.kids u c)) (u ∷ [])

  -- a head, with an explanation of how it was come to
  abbrev pub join : List U → Head U → Head U
  join E (is c xs F) = is c xs (E ++ F)
  join E (waits u) = waits u

  -- Constructor 0 of Bool is false. Any other is taken for true; a typed term has only 1.
  abbrev pub negation : Head U → Head U
  negation (is zero xs E) = is 1 h[] E
  negation (is (suc c) xs E) = is 0 h[] E
  negation (waits u) = waits u

  -- the right side of an `and` whose left side is true with E, and of one whose left side waits on u
  abbrev pub and_true : List U → Head U → Head U
  and_true E (is zero xs F) = is 0 h[] F
  and_true E (is (suc c) xs F) = is 1 h[] (E ++ F)
  and_true E (waits u) = waits u

  abbrev pub and_waits : U → Head U → Head U
  and_waits u (is zero xs F) = is 0 h[] F
  and_waits u (is (suc c) xs F) = waits u
  and_waits u (waits v) = waits u

  -- the arguments' verdict, with the two heads' explanations
  abbrev pub join_verdict : List U → Verdict U → Verdict U
  join_verdict E (same F) = same (E ++ F)
  join_verdict E (differ F) = differ (E ++ F)
  join_verdict E (wait u) = wait u

  -- the verdict of the later arguments, after a pair that is the same with E, and after one that waits on u
  abbrev pub after_same : List U → Verdict U → Verdict U
  after_same E (same F) = same (E ++ F)
  after_same E (differ F) = differ F
  after_same E (wait u) = wait u

  abbrev pub after_wait : U → Verdict U → Verdict U
  after_wait u (same F) = wait u
  after_wait u (differ F) = differ F
  after_wait u (wait v) = wait u

  -- a verdict as a head of type Bool
  abbrev pub truth : Verdict U → Head U
  truth (same E) = is 1 h[] E
  truth (differ E) = is 0 h[] E
  truth (wait u) = waits u

  -- The rules, over what they ask. `rest` and `right` are asked only where they stand.

  -- Arguments are compared in order, past a waiting pair, up to the first false one. (Where one list is longer, which no
  -- two typed terms come to, they are compared as far as both go.)
  abbrev pub after_pair : Judging (Verdict U) → Verdict U → Judging (Verdict U)
  after_pair rest (same E) = rest then λ v. give (after_same E v)
  after_pair rest (differ E) = give (differ E)
  after_pair rest (wait u) = rest then λ v. give (after_wait u v)

  abbrev pub pairs : Asks U → Helds U → Helds U → Judging (Verdict U)
  pairs A h[] ys = give (same [])
  pairs A (x h∷ xs) h[] = give (same [])
  pairs A (x h∷ xs) (y h∷ ys) = A.comparing x y then after_pair (pairs A xs ys)

  -- two heads, by whether they have the same constructor
  abbrev pub by_constructors : Asks U → Bool → Helds U → Helds U → List U → Judging (Verdict U)
  by_constructors A true xs ys E = pairs A xs ys then λ v. give (join_verdict E v)
  by_constructors A false xs ys E = give (differ E)

  abbrev pub after_right : Asks U → ℕ → Helds U → List U → Head U → Judging (Verdict U)
  after_right A c xs E (is d ys F) = by_constructors A (c == d) xs ys (E ++ F)
  after_right A c xs E (waits u) = give (wait u)

  -- The right side is asked also where the left one waits.
  abbrev pub after_left : Asks U → Held U → Head U → Judging (Verdict U)
  after_left A r (is c xs E) = A.head r then after_right A c xs E
  after_left A r (waits u) = A.head r then λ a. give (wait u)

  abbrev pub compared : Asks U → Held U → Held U → Judging (Verdict U)
  compared A l r = A.head l then after_left A r

  -- A branch has its constructor's arguments as the next variables.
  abbrev pub after_subject : Asks U → Terms → Helds U → Head U → Judging (Head U)
  after_subject A bs ρ (is c xs E) = A.head (hold (branch bs c) (ρ h++ xs)) then λ r. give (join E r)
  after_subject A bs ρ (waits u) = give (waits u)

  abbrev pub and_right : Judging (Head U) → Head U → Judging (Head U)
  and_right right (is zero xs E) = give (is 0 h[] E)
  and_right right (is (suc c) xs E) = right then λ r. give (and_true E r)
  and_right right (waits u) = right then λ r. give (and_waits u r)

  abbrev pub headed : Problem → Unknowns U → Asks U → Held U → Judging (Head U)
  headed p K A (free u) = give (of_unknown K u (K.chosen u))
  headed p K A (hold (var v) ρ) = A.head (bound ρ v)
  headed p K A (hold (unknown k) ρ) = give (of_unknown K (K.roots k) (K.chosen (K.roots k)))
  headed p K A (hold (con t c ts) ρ) = give (is c (holds ts ρ) [])
  headed p K A (hold (call f ts) ρ) = A.head (hold (body_of p f) (holds ts ρ))
  headed p K A (hold (case t a bs) ρ) = A.head (hold a ρ) then after_subject A bs ρ
  headed p K A (hold (both a b) ρ) = A.head (hold a ρ) then and_right (A.head (hold b ρ))
  headed p K A (hold (not a) ρ) = A.head (hold a ρ) then λ r. give (negation r)
  headed p K A (hold (equal t l r) ρ) = compared A (hold l ρ) (hold r ρ) then λ v. give (truth v)

  -- Judging to a depth of n. Each asking costs a step, so a depth as great as the steps changes nothing.
  unfoldable pub judges : Problem → Unknowns U → ℕ → Asks U
  judges p K zero = record { head = λ h. out; comparing = λ l r. out }
  judges p K (suc n) = record { head = λ h. step (headed p K (judges p K n) h); comparing = λ l r. step (compared (judges p K n) l r) }

  -- The head of a held term, and the comparing of two, with s steps.
  abbrev pub judge : Problem → Unknowns U → Held U → Judging (Head U)
  judge p K h s = (judges p K s).head h s

  abbrev pub compare : Problem → Unknowns U → Held U → Held U → Judging (Verdict U)
  compare p K l r s = (judges p K s).comparing l r s
