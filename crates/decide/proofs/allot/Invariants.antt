-- As many variables were allotted as turns were made.
use Rattle.decide.specs.Decided.{Taken}
use Rattle.decide.proofs.allot.Given as goal

abbrev pub invariant-loop : goal.invariant-loop
invariant-loop g l = Taken (g.C.Chooser.meaning l.initial.chooser) (g.C.Chooser.meaning l.chooser) l.counter
