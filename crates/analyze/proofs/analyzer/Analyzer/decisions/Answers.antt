use Rattle.std.proofs.Common.{◌≡◌, ◌+◌, ◌-◌, sym, ap, ◌∙◌, subst, arith}
use Rattle.rows.specs.Lits.{Turned}
use Rattle.implied.specs.Implied.{allowed}
use Rattle.trail.specs.declared.step.Reason.TheVariants.{Decision}
use Rattle.trail.specs.declared.step.Step.{Step}
use Rattle.trail.specs.Trails.{step_at, literal_at}
use Rattle.analyze.proofs.Jumps.{Deciding, decide_skip, decide_or}
use Rattle.analyze.proofs.analyzer.Analyzer.decisions.Goals as goal

pub loop-i-preserved-then-is_decision : goal.loop-i-preserved-then-is_decision
loop-i-preserved-then-is_decision c =
    let t = c.args.search.now.trail in
    let l = c.loop-i in
    let at : l.i ≡ l.i - 1 + 1 = omega arith in
    let one : (step_at t.steps.items (l.i - 1)).reason ≡ Decision = ap (λ (z : Step). z.reason) (sym c.step-step.ensures) ∙ c.is_decision.ensures.yes c.if-is_decision.true in
    let turn : Turned (literal_at t.steps.items (l.i - 1)) c.turned.result = subst (λ (z : Step). Turned z.literal c.turned.result) c.step-step.ensures c.turned.ensures.other in
    rw c.push_reserved.ensures.items (rw c.or-last.ensures (decide_or (allowed c.args.search.now.facts.store.row.items) t.values t.positions t.steps.items c.args.search.now.steady (l.i - 1) l.self.clause.items l.last
    (subst (λ n. Deciding (allowed c.args.search.now.facts.store.row.items) t.steps.items n l.self.clause.items l.last) at l.invariant) c.turned.result turn one))

pub loop-i-preserved : goal.loop-i-preserved
loop-i-preserved c =
    let t = c.args.search.now.trail in
    let l = c.loop-i in
    let at : l.i ≡ l.i - 1 + 1 = omega arith in
    decide_skip (allowed c.args.search.now.facts.store.row.items) t.values t.positions t.steps.items c.args.search.now.steady (l.i - 1) l.self.clause.items l.last
    (subst (λ n. Deciding (allowed c.args.search.now.facts.store.row.items) t.steps.items n l.self.clause.items l.last) at l.invariant) (λ d. c.is_decision.ensures.no c.if-is_decision.false (ap (λ (z : Step). z.reason) c.step-step.ensures ∙ d))
