use Rattle.std.proofs.Common.{◌+◌, ◌-◌, refl, ap, arith}
use Rattle.std.proofs.lemmas.List.{get_or_default}
use Rattle.held.specs.declared.places.Place.{Place}
use Rattle.held.specs.Reading.{Reads}
use Rattle.held.specs.Standing.{no_place}
use Rattle.held.proofs.Standing.{same_trans, bound_none, bound_more, bound_all}
use Rattle.held.proofs.memory.Memory.bind.Goals as goal

pub loop-argument-init : goal.loop-argument-init
loop-argument-init c = record {
  long = refl;
  top = refl;
  few = omega arith;
  same = λ i h. refl;
  bound = λ x xs ρ long row b.
      bound_none (Reads x) c.args.self.now.places.now c.args.self.now.top c.args.start (c.args.start + c.args.count - c.args.start) c.args.env xs ρ (omega arith) row b;
}

pub loop-argument-preserved : goal.loop-argument-preserved
loop-argument-preserved c =
    let inv = c.loop-argument.invariant in
    let p = c.push-bound.ensures in
    let m = c.loop-argument.self.places.now in
    let n = c.push-bound.new.self.places.now in
    let top = c.loop-argument.self.top in
    let at = c.loop-argument.argument in
    let end = c.args.start + c.args.count in
    let is = ap (λ (q : Place). q.held) (get_or_default m at c.index-self-argument.result no_place (omega (arith, inv.long, c.min-end.ensures))) in
    record {
      long = omega (arith, inv.long, p.grown.long);
      top = omega (arith, inv.top, p.top);
      few = omega (arith, c.min-end.ensures, c.saturating_add.ensures, c.from.ensures);
      same = same_trans c.args.self.now.places.now m n c.args.self.now.top top (omega (arith, inv.top)) inv.same p.grown.same;
      bound = λ x xs ρ long row b.
          bound_more (Reads x) m n top c.push-bound.new.self.top at (end - at) (end - (at + 1)) c.loop-argument.bound c.push-bound.result _ ρ xs p.grown.top
          (omega (arith, c.min-end.ensures, c.saturating_add.ensures, c.from.ensures)) is p.grown.same (p.bound x) (inv.bound x xs ρ long row b);
    }

pub returns-clause-grown : goal.returns-clause-grown
returns-clause-grown c =
    let inv = c.loop-argument.invariant in
    record {
      long = inv.long;
      top = omega (arith, inv.top);
      few = omega (arith, inv.top, inv.few);
      same = inv.same;
    }

pub returns-clause-bound : goal.returns-clause-bound
returns-clause-bound c x xs ρ long row b =
    let inv = c.loop-argument.invariant in
    let at = c.loop-argument.argument in
    bound_all (Reads x) c.loop-argument.self.places.now c.loop-argument.self.top at (c.args.start + c.args.count - at) c.loop-argument.bound ρ xs
    (λ more. omega (arith, inv.top, inv.long, c.requires, c.min-end.ensures, c.saturating_add.ensures, c.from.ensures)) (inv.bound x xs ρ long row b)
