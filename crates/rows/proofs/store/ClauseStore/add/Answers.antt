-- The row with a clause more is whole, and means what is promised.
use Rattle.std.proofs.Common.{◌≡◌, true, vec_items, sym, subst, arith}
use Rattle.chooser.specs.Steps.{Added}
use Rattle.rows.specs.Rows.{inside}
use Rattle.rows.specs.Meant.{meant}
use Rattle.rows.proofs.Rows.{inside_append}
use Rattle.rows.proofs.Meant.{meant_added}
use Rattle.rows.proofs.store.ClauseStore.add.Goals as goal

pub invariant_of-self : goal.invariant_of-self
invariant_of-self c =
    let s = c.args.self.now in
    let after = c.push_clause.ensures in
    record {
      fits = omega arith;
      reserved = omega arith;
      small = s.small;
      few = s.few;
      whole = subst (λ row. inside s.count 0 row ≡ true) (sym after.items) (inside_append s.count c.args.clause.now (vec_items s.row) 0 s.whole (sym c.if-not-are_allotted.ensures));
    }

pub returns-clause-adds : goal.returns-clause-adds
returns-clause-adds c =
    let s = c.args.self.now in
    let row = vec_items s.row in
    let clause = c.args.clause.now in
    subst (λ r. Added (meant row s.entries 4096 s.count) (meant r s.entries 4096 s.count) clause) (sym c.push_clause.ensures.items)
    (meant_added row s.entries 4096 s.count clause (omega arith) s.whole (sym c.if-not-are_allotted.ensures))
