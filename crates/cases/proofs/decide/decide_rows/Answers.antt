use Rattle.std.proofs.Common.{Ok, arith}
use Rattle.syntax.specs.Problems.{sig_of}
use Rattle.syntax.specs.Typing.{cases_of}
use Rattle.problem.specs.Meant.{meant}
use Rattle.chooser.specs.Ways.{written}
use Rattle.cases.specs.Decided.{row_in, RowDecided}
use Rattle.cases.proofs.Rows.{put_row}
use Rattle.cases.proofs.decide.decide_rows.Goals as goal

pub loop-place-preserved : goal.loop-place-preserved
loop-place-preserved c =
    let rows = c.args.rows.now in
    put_row
    (λ i o. RowDecided (cases_of (sig_of (meant c.args.problem.now)) (row_in rows i).ty) (written c.args.way.now) (row_in rows i) (Ok o))
    c.loop-place.cases c.loop-place.place c.in_ok-cases.field-0 (omega arith) c.loop-place.invariant c.in_ok-cases.ensures
