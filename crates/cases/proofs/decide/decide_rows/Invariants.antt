use Rattle.std.proofs.Common.{ℕ, ◌<◌, Ok, None, slice_index_or}
use Rattle.syntax.specs.Problems.{sig_of}
use Rattle.syntax.specs.Typing.{cases_of}
use Rattle.problem.specs.Meant.{meant}
use Rattle.chooser.specs.Ways.{written}
use Rattle.cases.specs.Decided.{row_in, RowDecided}
use Rattle.cases.proofs.decide.decide_rows.Given as goal

abbrev pub invariant-loop-place : goal.invariant-loop-place
invariant-loop-place l =
    (i : ℕ) → i < l.place
    → RowDecided (cases_of (sig_of (meant l.problem)) (row_in l.rows i).ty) (written l.way) (row_in l.rows i) (Ok (slice_index_or l.cases i None))
