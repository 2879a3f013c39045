use Rattle.std.proofs.Common.{ap, ◌∙◌, length}
use Rattle.implied.specs.Implied.{allowed}
use Rattle.trail.proofs.Sounds.{sound_none}
use Rattle.trail.proofs.search.Search.clear.Goals as goal

pub invariant_of-self : goal.invariant_of-self
invariant_of-self c =
    let old = c.args.self.now in
    let new = c.clear.new.self in
    record { steady = rw c.clear.ensures.values (sound_none (allowed old.facts.store.row.items) new.positions new.steps.items (ap (λ z. length z) c.clear.ensures.positions ∙ old.steady.placed) c.clear.ensures.steps) }
