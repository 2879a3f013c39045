-- What a round finds when it judges the goals in force. Over any type U of unknowns: paths, or numbers of a table.
-- Assumes nothing.
use Rattle.std.specs.Prelude.{ℕ, zero, suc, Bool, cond, List, length}
use Rattle.std.proofs.Math.Option.{Option, none, some}
use Rattle.syntax.specs.Problems.{Problem}
use Rattle.judging.specs.Held.{goal}
use Rattle.judging.specs.Judging.{Unknowns, Head, is, waits, judge}

pub data Finding (U : Type 0) : Type 0 where
  out_of_steps : (g : ℕ) → Finding U  -- the goal g is OUT
  false_goal : (g : ℕ) → List U → Finding U  -- the goal g is false, with this explanation
  waiting_goal : (g : ℕ) → U → Finding U  -- the goal g waits on this unknown
  all_true : Finding U

module _ {U : Type 0} where
  -- a goal waits on u; what the goals after it say counts if one of them is OUT or false
  abbrev pub after_waiting : ℕ → U → Finding U → Finding U
  after_waiting g u (out_of_steps h) = out_of_steps h
  after_waiting g u (false_goal h E) = false_goal h E
  after_waiting g u (waiting_goal h v) = waiting_goal g u
  after_waiting g u all_true = waiting_goal g u

  -- what the goal g is judged, before what the goals after it say
  abbrev pub after_goal : ℕ → Option (Head U × ℕ) → Finding U → Finding U
  after_goal g none rest = out_of_steps g
  after_goal g (some (is zero xs E, left)) rest = false_goal g E
  after_goal g (some (is (suc c) xs E, left)) rest = rest
  after_goal g (some (waits u, left)) rest = after_waiting g u rest

  abbrev pub finding_from : Problem → Unknowns U → (ℕ → Bool) → ℕ → ℕ → ℕ → Finding U
  finding_from p K force steps g zero = all_true
  finding_from p K force steps g (suc m) =
      cond (force g) (after_goal g (judge p K (goal p g) steps) (finding_from p K force steps (suc g) m)) (finding_from p K force steps (suc g) m)

  -- Goals in force are judged in ascending number, each with all the steps. The first that is OUT or false ends this;
  -- with neither, it is the first that waits.
  abbrev pub finding : Problem → Unknowns U → (ℕ → Bool) → ℕ → Finding U
  finding p K force steps = finding_from p K force steps 0 (length p.goals)
