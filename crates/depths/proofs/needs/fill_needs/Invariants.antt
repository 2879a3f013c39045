use Rattle.syntax.specs.Tables.{declared_in}
use Rattle.depths.specs.Needs.{need_by}
use Rattle.depths.proofs.Filling.{FilledTo}
use Rattle.depths.proofs.needs.fill_needs.Given as goal

abbrev pub invariant-loop-t : goal.invariant-loop-t
invariant-loop-t l = FilledTo (need_by (declared_in l.sig) l.least) l.needs l.t
