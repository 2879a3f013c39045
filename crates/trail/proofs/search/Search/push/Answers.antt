use Rattle.std.proofs.Common.{◌/◌, ◌<◌, subst}
use Rattle.implied.specs.Implied.{allowed}
use Rattle.trail.specs.Values.{Free}
use Rattle.trail.proofs.Sounds.{sound_push}
use Rattle.trail.proofs.Values.{free_within}
use Rattle.trail.proofs.search.Search.push.Goals as goal

pub invariant_of-self : goal.invariant_of-self
invariant_of-self c =
    let old = c.args.self.now in
    let t = old.trail in
    let e = c.put.ensures in
    let free : Free t.values c.args.l = c.is_open.ensures.open c.if-not-is_open.false in
    let small : c.args.l / 2 < 4096 = subst (λ n. c.args.l / 2 < n) old.steady.wide (free_within t.values c.args.l free) in
    record { steady = rw (e.values, e.positions, e.steps) (sound_push (allowed old.facts.store.row.items) t.values t.positions t.steps.items old.steady c.args.l e.level c.args.reason small free c.requires) }
