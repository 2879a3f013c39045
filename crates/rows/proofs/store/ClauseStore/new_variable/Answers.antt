-- Whole clauses over v variables are whole clauses over v + 1.
use Rattle.std.proofs.Common.{◌+◌, vec_items, arith}
use Rattle.rows.proofs.Rows.{inside_more}
use Rattle.rows.proofs.store.ClauseStore.new_variable.Goals as goal

pub invariant_of-self : goal.invariant_of-self
invariant_of-self c =
    let s = c.args.self.now in
    record {
      fits = s.fits;
      reserved = s.reserved;
      small = s.small;
      few = omega arith;
      whole = inside_more s.count (s.count + 1) (vec_items s.row) 0 (omega arith) s.whole;
    }
