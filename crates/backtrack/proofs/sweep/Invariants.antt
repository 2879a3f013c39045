-- What is known while assumptions and clauses are left.
use Rattle.std.proofs.Common.{◌≡◌, ◌++◌, true, length, drop}
use Rattle.std.specs.List.{list_all}
use Rattle.chooser.specs.Ways.{allotted}
use Rattle.rows.specs.Rows.{clauses_of}
use Rattle.rows.specs.Clauses.{clauses_left}
use Rattle.backtrack.specs.Solved.{allowed}
use Rattle.backtrack.specs.Swept.{Passing, singles}
use Rattle.backtrack.proofs.sweep.Given as goal

abbrev pub invariant-loop-l : goal.invariant-loop-l
invariant-loop-l g l =
    Passing (allowed l.row l.assumptions) (singles (drop l.l-index l.assumptions) ++ clauses_of l.row) l.fn.trail.list.items l.values l.trail.list.items l.«open»

abbrev pub invariant-loop-clause : goal.invariant-loop-clause
invariant-loop-clause g l =
    (goal.iterator-loop-clause g).can_next l.clause-iterator
    × (goal.iterator-loop-clause g).is_finite l.clause-iterator
    × Passing (allowed l.row l.assumptions) (clauses_left l.clause-iterator) l.fn.trail.list.items l.values l.trail.list.items l.«open»
    × (list_all (allotted (length l.values)) (clauses_left l.clause-iterator) ≡ true)
