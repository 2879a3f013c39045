use Rattle.std.proofs.Common.{sym, ◌∙◌, arith}
use Rattle.chooser.specs.Ways.{written}
use Rattle.cases.proofs.Counting.{two_ones}
use Rattle.cases.proofs.decide.only_case.Goals as goal

pub returns-then-is_some : goal.returns-then-is_some
returns-then-is_some c =
    two_ones (written c.args.way.now) c.args.first c.loop-case.case c.args.count _ c.is_one.result c.loop-case.only
    (omega (arith, c.from.ensures, c.from-in-loop-case.ensures)) c.is_one.ensures c.if-is_one.true c.loop-case.invariant
    (sym c.is_some.ensures ∙ c.if-is_some.true) (omega arith)
