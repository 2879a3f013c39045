use Rattle.std.proofs.Common.{sym, subst}
use Rattle.decisions.specs.Plans.{Ordered}
use Rattle.decisions.proofs.Orders.{ordered_cut}
use Rattle.decisions.proofs.cut_back.Goals as goal

pub returns-else-k-plan-clause-planned : goal.returns-else-k-plan-clause-planned
returns-else-k-plan-clause-planned c =
    let given = c.args.given.now in
    let plan = c.args.plan.now in
    subst (λ z. Ordered given z plan.next plan.firm) (sym c.unwind.ensures.steps)
    (ordered_cut given c.args.search.now.trail.steps.items plan.next plan.firm c.requires.planned c.args.k c.requires.within c.if-k-plan.false)
