use Rattle.std.proofs.Common.{◌≡◌, ℕ, ◌+◌, ◌-◌, ◌<◌, List, Some, length, get_or, take, drop, sym, ap, ◌∙◌, subst, arith, length-drop}
use Rattle.std.proofs.lemmas.List.{get_or-take, get_or-drop, length-take-le}
use Rattle.implied.specs.Implied.{allowed}
use Rattle.trail.specs.Values.{Refuted, Holds}
use Rattle.trail.proofs.Sounds.{held_by}
use Rattle.decisions.specs.Plans.{Ordered}
use Rattle.decisions.proofs.Orders.{ordered_more, barred}
use Rattle.decisions.proofs.assume.Goals as goal

-- the item at i of the assumptions from the place n on
module _ (given : List ℕ) (n i next : ℕ) (lt : i < length (take (length given - n) (drop n given))) (is : next ≡ n + i) where
  left : n + i < length given
  left = let rest = length-drop n given in let whole = length-take-le (length given - n) (drop n given) (omega arith) in omega arith

  item : get_or (take (length given - n) (drop n given)) i 0 ≡ get_or given next 0
  item = let l = left in get_or-take (length given - n) (drop n given) i 0 (omega arith) ∙ get_or-drop n given i 0 ∙ ap (λ k. get_or given k 0) (sym is)

pub returns-in-Some-False-clause-assumed : goal.returns-in-Some-False-clause-assumed
returns-in-Some-False-clause-assumed c =
    let s = c.args.search.now in
    let given = c.args.given.now in
    let n = c.args.plan.now.next in
    let plan = c.loop-g.plan in
    let i = c.loop-g.g-index in
    let lt = c.loop-g-test.true in
    let is = c.loop-g.invariant.next in
    let more = left given n i plan.next lt is in
    let off = c.value.ensures.off (c.in-Some-False.is ∙ ap Some c.in-Some-False.field-0-is) in
    barred s given plan.next plan.firm c.loop-g.invariant.planned (omega arith) (subst (Refuted s.trail.values) (item given n i plan.next lt is) off)

pub loop-g-preserved : goal.loop-g-preserved
loop-g-preserved c =
    let s = c.args.search.now in
    let t = s.trail in
    let given = c.args.given.now in
    let n = c.args.plan.now.next in
    let plan = c.loop-g.plan in
    let i = c.loop-g.g-index in
    let lt = c.loop-g-test.true in
    let is = c.loop-g.invariant.next in
    let more = left given n i plan.next lt is in
    let on = subst (Holds t.values) (item given n i plan.next lt is) (c.value.ensures.on (c.in-Some-True.is ∙ ap Some c.in-Some-True.field-0-is)) in
    let w = held_by (allowed s.facts.store.row.items) t.values t.positions t.steps.items s.steady (get_or given plan.next 0) on in
    record {
      planned = subst (Ordered given t.steps.items (plan.next + 1)) (let e : length t.steps.items ≡ c.len-plan.result = omega arith in e) (ordered_more given t.steps.items plan.next plan.firm c.loop-g.invariant.planned w.0 (omega arith) w.1 w.2);
      next = omega arith;
    }
