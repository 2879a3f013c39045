-- What is written of the clause when so many rows were gone through.
use Rattle.held.specs.Explanations.{contains}
use Rattle.recording.proofs.Conflicts.{Written}
use Rattle.recording.proofs.conflict.write_clause.Given as goal

abbrev pub invariant-loop-at : goal.invariant-loop-at
invariant-loop-at l = Written l.table l.cases (contains l.because.words) l.goal l.at l.literals l.len
