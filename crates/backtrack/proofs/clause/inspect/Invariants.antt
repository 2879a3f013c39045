-- What the literals before the place tell.
use Rattle.std.proofs.Common.{take}
use Rattle.backtrack.specs.Told.{Told}
use Rattle.backtrack.proofs.Looks.{status}
use Rattle.backtrack.proofs.clause.inspect.Given as goal

abbrev pub invariant-loop-l : goal.invariant-loop-l
invariant-loop-l l = Told l.values (take l.l-index l.clause) (status l.first l.again)
