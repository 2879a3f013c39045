-- As many variables were allotted as turns were made.
use Rattle.recording.specs.Opening.{Named}
use Rattle.recording.proofs.opening.allot_each.Given as goal

abbrev pub invariant-loop : goal.invariant-loop
invariant-loop g l = Named (g.C.Chooser.meaning l.initial.chooser) (g.C.Chooser.meaning l.chooser) l.counter l.literals.items
