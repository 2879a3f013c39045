use Rattle.std.proofs.Common.{◌<◌, sym, inr, ◌∙◌, ap, subst, arith}
use Rattle.trail.specs.declared.step.Reason.TheVariants.{Decision}
use Rattle.decisions.proofs.Orders.{ordered_placed}
use Rattle.cdcl_steps.specs.Search.{measure}
use Rattle.cdcl_steps.proofs.Turns.{decided_less, jumped_less, restart_less, placed_from}
use Rattle.cdcl.proofs.run.Goals as goal

pub turn-smaller : goal.turn-smaller
turn-smaller c =
    let t = c.turn.solver.search in
    let v = c.backjump.new.self.search in
    subst (λ f. measure f v.trail.steps.items < measure c.turn.restarts.left t.trail.steps.items) (sym c.count_clash.ensures.left)
    (jumped_less t c.advance.new.self.search v c.advance.ensures.grew c.turn.restarts.left c.if-not-backjump.ensures.jumped)

pub turn-preserved-in-Decide : goal.turn-preserved-in-Decide
turn-preserved-in-Decide c =
    let u = c.advance.new.self.search in
    let v = c.push.new.self in
    let plan = c.advance.new.plan in
    let chosen = c.in-Decide.ensures.chosen in
    let p = (placed_from u v c.in-Decide.l Decision c.push.result c.push.ensures chosen.0).1 in
    record {
      store = ap (λ f. f.store) p.facts ∙ c.advance.ensures.store ∙ c.turn.invariant.store;
      planned = ordered_placed c.args.given.now u v plan.next plan.firm c.in-Decide.l Decision p (inr chosen.1) c.advance.ensures.planned;
    }

pub turn-smaller-in-Decide : goal.turn-smaller-in-Decide
turn-smaller-in-Decide c =
    let u = c.advance.new.self.search in
    let v = c.push.new.self in
    let chosen = c.in-Decide.ensures.chosen in
    let p = (placed_from u v c.in-Decide.l Decision c.push.result c.push.ensures chosen.0).1 in
    decided_less c.turn.solver.search u v c.advance.ensures.grew c.turn.restarts.left c.in-Decide.l p

pub turn-smaller-then-is_due : goal.turn-smaller-then-is_due
turn-smaller-then-is_due c =
    let some = c.is_due.ensures.some c.if-is_due.true in
    let less = c.begin_next.ensures.left in
    restart_less c.turn.solver.search c.restart.new.self.search c.turn.restarts.left c.begin_next.new.self.left some (omega arith)
