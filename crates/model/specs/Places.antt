-- The unknowns that model bytes decide: each is the place of its value in them. Assumes nothing.
use Rattle.std.specs.Prelude.{ℕ, ◌+◌, cond, List, [], ◌∷◌, length, Ok, Err, Result, ◌==◌, nat_lt, slice_index}
use Rattle.std.proofs.Math.Option.{Option, none, some}
use Rattle.syntax.specs.declared.faults.Fault.{Fault}
use Rattle.syntax.specs.Typing.{Sig, arguments}
use Rattle.syntax.specs.Problems.{Problem, sig_of}
use Rattle.judging.specs.Judging.{Unknowns}
use Rattle.model.specs.Reading.{value_end}

abbrev pub or_stay : ℕ → Result ℕ Fault → ℕ
or_stay p (Ok q) = q
or_stay p (Err e) = p

-- where values of these types start that stand one after another from p on
abbrev pub starts_from : Sig → List ℕ → List ℕ → ℕ → List ℕ
starts_from sig bs [] p = []
starts_from sig bs (t ∷ ts) p = p ∷ starts_from sig bs ts (or_stay p (value_end (length bs) sig bs 0 t p))

-- the constructor at a place; none at an open part
abbrev pub chosen_at : List ℕ → ℕ → Option ℕ
chosen_at bs u = cond (nat_lt (u + 2) (length bs)) (cond (slice_index bs u == 2) (some (slice_index bs (u + 2))) none) none

-- the unknowns of a problem by bytes in which their values stand at `roots`
abbrev pub decided_by : Problem → List ℕ → List ℕ → Unknowns ℕ
decided_by p bs roots =
    record {
      roots = λ k. slice_index roots k;
      kids = λ u c. starts_from (sig_of p) bs (arguments (sig_of p) (slice_index bs (u + 1)) c) (u + 3);
      chosen = chosen_at bs;
    }
