use Rattle.std.proofs.Common.{◌≡◌, ◌≢◌, get_or, ap, sym, inl, ◌∙◌, subst}
use Rattle.std.proofs.lemmas.List.{get_or_read}
use Rattle.chooser.specs.Ways.{lit, some}
use Rattle.implied.specs.Implied.{allowed}
use Rattle.trail.specs.declared.step.Reason.TheVariants.{Decision}
use Rattle.trail.specs.Steps.{Pushed}
use Rattle.decisions.specs.Plans.{Planned}
use Rattle.decisions.proofs.Orders.{ordered_placed}
use Rattle.cdcl_steps.proofs.Turns.{follows_cut, placed}
use Rattle.cdcl_steps.proofs.solver.Solver.backjump.Goals as goal
use Rattle.cdcl_steps.proofs.solver.Solver.backjump.Goals.{in-Some-learn, in-None}

pub learn-requires : goal.learn-requires
learn-requires c p x =
    let same = ap (λ f. f.store.row.items) c.cut_back.ensures.kept.facts in
    let drawn = c.in-Some.ensures.0 in
    ap (λ z. some (lit p) z.items) c.glue-glue.ensures.clause ∙ drawn p (ap (λ r. allowed r p) (sym same) ∙ x)

pub push-requires : goal.push-requires
push-requires c _ =
    let old = c.args.self.now.search in
    let rows = ap (λ s. s.row.items) c.learn.ensures.store ∙ ap (λ f. f.store.row.items) c.cut_back.ensures.kept.facts in
    let steps = ap (λ t. t.steps.items) c.learn.ensures.trail ∙ c.cut_back.ensures.kept.steps in
    let place = c.in-Some.ensures.1 in
    let first = get_or_read c.analyze.new.self.clause.items _ _ place.some c.index-first.ensures 0 in
    let cut = follows_cut old.facts.store.row.items c.learn.new.self.search.facts.store.row.items old.trail.steps.items c.learn.new.self.search.trail.steps.items c.in-Some.k _ rows steps place.before place.follows in
    λ p x along. ap (lit p) first ∙ cut p x along

pub returns-clause-planned : goal.returns-clause-planned
returns-clause-planned c =
    let old = c.args.self.now.search in
    let clause = c.analyze.new.self.clause.items in
    let place = c.in-Some.ensures.1 in
    let plan = c.cut_back.new.plan in
    let u = c.learn.new.self.search in
    let v = c.push.new.self in
    let first : c.index-first.result.now ≡ get_or clause 0 0 = get_or_read clause _ _ place.some c.index-first.ensures 0 in
    let follows : c.match-learn.reason ≢ Decision = elim c.match-learn.branch [
      | in-Some-learn w ↦ λ e. let is = w.reason-is in cc
      | in-None w ↦ λ e. let is = w.reason-is in cc
    ] in
    let pushed = subst (λ l. Pushed u v l c.match-learn.reason c.push.result) first c.push.ensures in
    let put = placed (allowed old.facts.store.row.items) clause old c.cut_back.new.search u v c.in-Some.k c.match-learn.reason c.push.result place c.cut_back.ensures.kept c.learn.ensures.trail pushed follows in
    ordered_placed c.args.given.now u v plan.next plan.firm (get_or clause 0 0) c.match-learn.reason put (inl follows)
    (subst (λ z. Planned c.args.given.now z.steps.items plan) (sym c.learn.ensures.trail) c.cut_back.ensures.planned)
