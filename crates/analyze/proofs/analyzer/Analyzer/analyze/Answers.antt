use Rattle.std.proofs.Common.{sym, ap, ◌∙◌, arith}
use Rattle.trail.specs.declared.step.Step.{Step}
use Rattle.implied.specs.Implied.{allowed}
use Rattle.analyze.proofs.Jumps.{asserted}
use Rattle.analyze.proofs.analyzer.Analyzer.analyze.Goals as goal

pub returns-then-asserts : goal.returns-then-asserts
returns-then-asserts c =
    let s = c.args.search.now in
    let clause = c.explain.new.self.clause.items in
    let drawn = c.explain.ensures c.if-explain.true in
    let o = c.asserts.ensures c.if-asserts.true in
    (drawn, record { some = o.some; before = omega arith; decision = ap (λ (z : Step). z.reason) (sym c.step.ensures) ∙ c.is_decision.ensures.yes c.if-is_decision.true; follows = asserted (allowed s.facts.store.row.items) s.trail.steps.items clause c.in-Some-target.k drawn o; first = o.first })
