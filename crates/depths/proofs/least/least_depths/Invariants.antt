use Rattle.syntax.specs.Tables.{declared_in}
use Rattle.depths.specs.Least.{Known}
use Rattle.depths.proofs.least.least_depths.Given as goal

abbrev pub invariant-loop-depth : goal.invariant-loop-depth
invariant-loop-depth l = Known (declared_in l.sig) l.least l._depth 0
