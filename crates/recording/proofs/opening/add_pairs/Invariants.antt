-- The pairs of the cases below the second were added, and then those with the second, one after another.
use Rattle.finder.specs.Clauses.{not_with, not_two, Extended}
use Rattle.recording.proofs.opening.add_pairs.Given as goal

abbrev pub invariant-loop-second : goal.invariant-loop-second
invariant-loop-second g l = Extended (g.C.Chooser.meaning l.initial.chooser) (g.C.Chooser.meaning l.chooser) 0 (not_two l.first l.second)

abbrev pub invariant-loop-other : goal.invariant-loop-other
invariant-loop-other g l = Extended (g.C.Chooser.meaning l.initial.chooser) (g.C.Chooser.meaning l.chooser) 0 (not_with l.first l.second l.other)
