-- Each clause has allotted literals and its entries are left, so the chooser takes it.
use Rattle.std.proofs.Common.{◌≡◌, ap, ◌∙◌, subst, sym}
use Rattle.rows.specs.Rows.{clauses_of}
use Rattle.rows.specs.Clauses.{clauses_left}
use Rattle.decide.specs.Adding.{Adding}
use Rattle.decide.proofs.Adds.{adding_none}
use Rattle.decide.proofs.add_row.Goals as goal

pub loop-clause-init : goal.loop-clause-init
loop-clause-init g c =
    let m = g.C.Chooser.meaning c.args.chooser.now in
    let new : clauses_left c.into_iter-clause-iterator.result ≡ clauses_of c.args.row.now = ap clauses_left c.into_iter-clause-iterator.ensures.into_iter_gives ∙ c.new-clause-items.ensures in
    (tt, tt, subst (Adding m m c.args.row.now) (sym new) (adding_none m c.args.row.now c.requires.whole))
