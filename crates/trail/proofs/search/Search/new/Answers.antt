use Rattle.implied.specs.Implied.{allowed}
use Rattle.trail.proofs.Sounds.{sound_none}
use Rattle.trail.proofs.search.Search.new.Goals as goal

pub invariant_of-result : goal.invariant_of-result
invariant_of-result c =
    let t = c.in_ok-new.field-0 in
    record { steady = rw c.in_ok-new.ensures.values (sound_none (allowed c.args.facts.store.row.items) t.positions t.steps.items c.in_ok-new.ensures.placed c.in_ok-new.ensures.steps) }
