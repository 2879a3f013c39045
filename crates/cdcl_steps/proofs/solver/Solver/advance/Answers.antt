use Rattle.std.proofs.Common.{◌≡◌, ℕ, List, ap, sym, subst}
use Rattle.trail.specs.declared.step.Step.{Step}
use Rattle.trail.specs.Trails.{Grew}
use Rattle.decisions.specs.Plans.{Ordered, Planned}
use Rattle.decisions.specs.declared.plan.Plan.{Plan}
use Rattle.decisions.proofs.Orders.{ordered_grew}
use Rattle.cdcl_steps.proofs.solver.Solver.advance.Goals as goal

-- the plan is the same where its assumptions are
replanned : (given : List ℕ) (t u v : List Step) (a b : Plan) → b.next ≡ a.next → b.firm ≡ a.firm → Grew t u → v ≡ u → Planned given t a → Planned given v b
replanned given t u v a b next firm g same o =
    subst (λ z. Ordered given z b.next b.firm) (sym same)
    (subst (λ n. Ordered given u n b.firm) (sym next)
    (subst (λ f. Ordered given u a.next f) (sym firm)
    (ordered_grew given t a.next a.firm o u g)))

pub returns-then-is_some-clause-planned : goal.returns-then-is_some-clause-planned
returns-then-is_some-clause-planned c =
    let p = c.propagate-clash.ensures.onward in
    replanned c.args.given.now c.args.self.now.search.trail.steps.items c.propagate-clash.new.search.trail.steps.items c.settle.new.search.trail.steps.items c.args.plan.now c.settle.new.plan c.settle.ensures.next c.settle.ensures.firm p.grew (ap (λ z. z.steps.items) c.settle.ensures.trail) c.requires.planned

pub choose-requires-clause-planned : goal.choose-requires-clause-planned
choose-requires-clause-planned c =
    let p = c.propagate-clash.ensures.onward in
    replanned c.args.given.now c.args.self.now.search.trail.steps.items c.propagate-clash.new.search.trail.steps.items c.settle.new.search.trail.steps.items c.args.plan.now c.settle.new.plan c.settle.ensures.next c.settle.ensures.firm p.grew (ap (λ z. z.steps.items) c.settle.ensures.trail) c.requires.planned
