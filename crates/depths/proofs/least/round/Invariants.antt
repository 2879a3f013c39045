use Rattle.std.proofs.Common.{ℕ}
use Rattle.syntax.specs.Tables.{declared_in}
use Rattle.depths.specs.Least.{Known}
use Rattle.depths.proofs.least.round.Given as goal

abbrev pub invariant-loop-t : goal.invariant-loop-t
invariant-loop-t l = (k : ℕ) → Known (declared_in l.sig) l.initial.least k 0 → Known (declared_in l.sig) l.least k l.t
