use Rattle.chooser.specs.Ways.{written}
use Rattle.cases.proofs.Counting.{SoFar}
use Rattle.cases.proofs.decide.only_case.Given as goal

abbrev pub invariant-loop-case : goal.invariant-loop-case
invariant-loop-case l = SoFar (written l.way) l.first l.case l.only
