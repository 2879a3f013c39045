use Rattle.implied.specs.Implied.{allowed}
use Rattle.implied.proofs.Pools.{met_none, off_none}
use Rattle.implied.proofs.facts.Facts.new.Goals as goal

pub invariant_of-result : goal.invariant_of-result
invariant_of-result c =
    let X = allowed c.args.store.row.items in
    record {
      met = met_none X c.in_ok-new.field-0 c.in_ok-new.ensures;
      offs = off_none X 8192 c.in_ok-vec.field-0.items (c.in_ok-vec.ensures.items_if_clones_equal (λ y e. e));
    }
