-- A clause that is cut short, one with a literal that is not allotted, and one more that is whole.
use Rattle.std.proofs.Common.{sym, ap, ◌∙◌}
use Rattle.chooser.specs.Ways.{allotted}
use Rattle.rows.specs.Rows.{inside}
use Rattle.rows.proofs.Clauses.{inside_short, inside_strange, inside_next}
use Rattle.rows.proofs.is_whole.Goals as goal

pub returns-in_default-split_at_checked : goal.returns-in_default-split_at_checked
returns-in_default-split_at_checked c =
    let first = c.in-Some.ensures.cases in
    sym (c.loop-length.invariant ∙ ap (inside c.args.count 0) first.0 ∙ inside_short c.args.count c.in-Some.length.now c.in-Some.behind.now c.in_default-split_at_checked.ensures.cases)

pub returns-then-not-are_allotted : goal.returns-then-not-are_allotted
returns-then-not-are_allotted c =
    let v = c.args.count in
    let first = c.in-Some.ensures.cases in
    let cut = c.in-Some-split_at_checked.ensures.cases in
    sym
    (c.loop-length.invariant ∙ ap (inside v 0) first.0
    ∙ inside_strange v c.in-Some.length.now c.in-Some.behind.now (ap (allotted v) (sym cut.1) ∙ sym c.if-not-are_allotted.ensures))

pub loop-length-preserved : goal.loop-length-preserved
loop-length-preserved c =
    let v = c.args.count in
    let first = c.in-Some.ensures.cases in
    let cut = c.in-Some-split_at_checked.ensures.cases in
    c.loop-length.invariant ∙ ap (inside v 0) first.0
    ∙ inside_next v c.in-Some.length.now c.in-Some.behind.now cut.0 (ap (allotted v) (sym cut.1) ∙ sym c.if-not-are_allotted.ensures)
    ∙ ap (inside v 0) (sym cut.2)
