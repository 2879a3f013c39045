use Rattle.std.proofs.Common.{ℕ, ◌+◌, ◌-◌, refl, subst, arith}
use Rattle.judging.specs.Held.{Helds, ◌h++◌}
use Rattle.held.specs.Reading.{Reads}
use Rattle.held.specs.Standing.{Row, Env}
use Rattle.held.proofs.Standing.{same_trans}
use Rattle.judge.specs.Texts.{text_of}
use Rattle.judge.proofs.Texts.{rest_of}
use Rattle.judge.proofs.Holding.{holding_none, holding_more, holding_all}
use Rattle.judge.proofs.held_terms.hold_terms.Goals as goal

pub loop-init : goal.loop-init
loop-init c = record {
  long = refl;
  top = omega arith;
  same = λ i h. refl;
  held = λ ts ρ long r b.
      holding_none (text_of c.args.problem.now) c.args.memory.now.places.now c.args.memory.now.top c.args.place (c.args.count - 0) c.args.env c.args.onto ts ρ
      (omega arith) r b;
}

pub loop-preserved : goal.loop-preserved
loop-preserved c =
    let problem = c.args.problem.now in
    let inv = c.loop.invariant in
    let push = c.push-bound.ensures in
    let a = c.args.memory.now in
    let b = c.loop.memory in
    let n = c.push-bound.new.self in
    record {
      long = omega (arith, inv.long, push.grown.long);
      top = omega (arith, inv.top, push.top);
      same = same_trans a.places.now b.places.now n.places.now a.top b.top (omega (arith, inv.top)) inv.same push.grown.same;
      held = λ ts ρ long r e.
          holding_more (text_of problem) a.places.now b.places.now n.places.now a.top b.top n.top c.loop.place c.after-place.result
          (c.args.count - c.loop.counter) (c.args.count - (c.loop.counter + 1)) c.args.env c.args.onto c.loop.bound c.push-bound.result push.top (omega arith)
          push.grown.same push.held ts ρ (rest_of problem c.loop.place c.after-place.result c.after-place.ensures.is) (push.bound (text_of problem))
          (inv.held ts ρ long r e);
    }

pub returns : goal.returns
returns c =
    let x = text_of c.args.problem.now in
    let inv = c.loop.invariant in
    let m = c.loop.memory in
    record {
      grown = record { long = inv.long; top = omega (arith, inv.top); few = omega (arith, inv.top); same = inv.same };
      row = λ ts ρ long r b.
          let h = inv.held ts ρ long r b in
          subst (λ (hs : Helds ℕ). Row (Reads x) m.places.now m.top c.args.memory.now.top hs) (holding_all x ts ρ (omega arith) h) h.row;
      bound = λ ts ρ σ long r b e.
          let h = inv.held ts ρ long r b in
          subst (λ (hs : Helds ℕ). Env (Reads x) m.places.now m.top c.loop.bound (σ h++ hs)) (holding_all x ts ρ (omega arith) h) (h.bound σ e);
    }
