use Rattle.std.proofs.Common.{sym, ◌∙◌, arith}
use Rattle.declarations.proofs.Walks.{cases_pass, cases_stop, cases_end}
use Rattle.declarations.proofs.in_cases.Goals as goal

pub returns-in-Some : goal.returns-in-Some
returns-in-Some c =
    sym (c.loop-list.invariant.0
    ∙ cases_stop c.args.known c.args.cases.now c.loop-list.list-index c.loop-list.at c.loop-list-test.true
    c.types-types.result.now c.types-types.ensures.is c.in-Some.found c.in-Some.ensures)

pub loop-list-preserved : goal.loop-list-preserved
loop-list-preserved c =
    let few = c.types-types.ensures.few in
    let low = c.loop-list.invariant.1 in (
      c.loop-list.invariant.0
          ∙ cases_pass c.args.known c.args.cases.now c.loop-list.list-index c.loop-list.at c.loop-list-test.true
          c.types-types.result.now c.types-types.ensures.is c.in_default.ensures,
      omega arith,
    )

pub returns : goal.returns
returns c =
    sym (c.loop-list.invariant.0
    ∙ cases_end c.args.known c.args.cases.now c.loop-list.list-index c.loop-list.at c.loop-list-test.false)
