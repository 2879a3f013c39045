-- What an iterator over the clauses of a row has left.
use Rattle.std.specs.Prelude.{ℕ, List}
use Rattle.rows.specs.Rows.{clauses_of}
use Rattle.rows.specs.declared.clause_iter.ClauseIter.{ClauseIter}

abbrev pub clauses_left : ClauseIter → List (List ℕ)
clauses_left s = clauses_of s.rest.now
