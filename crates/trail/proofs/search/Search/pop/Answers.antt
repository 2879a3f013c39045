use Rattle.implied.specs.Implied.{allowed}
use Rattle.trail.proofs.Sounds.{sound_pop}
use Rattle.trail.proofs.search.Search.pop.Goals as goal

pub invariant_of-self : goal.invariant_of-self
invariant_of-self c =
    let old = c.args.self.now in
    let t = old.trail in
    let e = c.take_last.ensures in
    record { steady = rw (e.values, e.positions, e.steps, e.last) (sound_pop (allowed old.facts.store.row.items) t.values t.positions t.steps.items old.steady c.requires) }
