use Rattle.std.proofs.Common.{◌≡◌, ℕ, ◌+◌, ◌-◌, ◌≤◌, List, length, drop}
use Rattle.syntax.specs.Typing.{Sig}
use Rattle.syntax.specs.Problems.{sig_of}
use Rattle.model.specs.Reading.{ends, value_end}
use Rattle.model.proofs.value_reading.ValueReader.+value_end.Given as goal

-- the arguments' ends so far: the next argument stands at `end`
pub record Ended (sig : Sig) (bs : List ℕ) (mark : ℕ) (types : List ℕ) (index from end : ℕ) : Type 0 where
  pub after : from ≤ end
  pub low : end ≤ length bs
  pub rest : (k : ℕ) → length bs ≤ from + k
      → ends (value_end k sig bs mark) types from ≡ ends (value_end k sig bs mark) (drop index types) end

abbrev pub decreases-value_end : goal.decreases-value_end
decreases-value_end g l = length l.self.now.bytes.now - l.place

abbrev pub invariant-loop-argument : goal.invariant-loop-argument
invariant-loop-argument g l =
    Ended (sig_of (g.P.Declares.declares l.self.problem.now)) l.self.bytes.now l.self.mark l.argument-items l.argument-index (l.fn.place + 3) l.end
