-- What is known while clauses are left.
use Rattle.rows.specs.Clauses.{clauses_left}
use Rattle.decide.specs.Adding.{Adding}
use Rattle.decide.proofs.add_row.Given as goal

abbrev pub invariant-loop-clause : goal.invariant-loop-clause
invariant-loop-clause g l =
    (goal.iterator-loop-clause g).can_next l.clause-iterator
    × (goal.iterator-loop-clause g).is_finite l.clause-iterator
    × Adding (g.C.Chooser.meaning l.initial.chooser) (g.C.Chooser.meaning l.chooser) l.row (clauses_left l.clause-iterator)
