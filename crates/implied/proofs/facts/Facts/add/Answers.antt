use Rattle.std.proofs.Common.{is_ok}
use Rattle.implied.specs.Implied.{allowed}
use Rattle.implied.proofs.Pools.{met_fewer, off_fewer}
use Rattle.implied.proofs.Rows.{allowed_fewer}
use Rattle.implied.proofs.facts.Facts.add.Goals as goal

pub invariant_of-self : goal.invariant_of-self
invariant_of-self c =
    let old = c.args.self.now in
    let row = old.store.row.items in
    let new = c.add.new.self.row.items in
    let fewer = allowed_fewer row new c.args.clause.now old.store.count (is_ok c.add.result) old.store.whole c.add.ensures.row in
    record {
      met = met_fewer (allowed row) (allowed new) fewer old.pool old.met;
      offs = off_fewer (allowed row) (allowed new) fewer old.off.items old.offs;
    }
