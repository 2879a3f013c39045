use Rattle.std.proofs.Common.{is_ok}
use Rattle.implied.specs.Implied.{allowed}
use Rattle.implied.proofs.Rows.{allowed_fewer}
use Rattle.trail.proofs.Sounds.{sound_fewer}
use Rattle.trail.proofs.search.Search.add.Goals as goal

pub invariant_of-self : goal.invariant_of-self
invariant_of-self c =
    let old = c.args.self.now in
    let store = old.facts.store in
    let row = store.row.items in
    let new = c.add.new.self.store.row.items in
    record { steady = sound_fewer (allowed row) old.trail.values old.trail.positions old.trail.steps.items old.steady (allowed new) (allowed_fewer row new c.args.clause.now store.count (is_ok c.add.result) store.whole c.add.ensures.row) }
