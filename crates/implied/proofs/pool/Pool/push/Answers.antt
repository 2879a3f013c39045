use Rattle.std.proofs.Common.{◌≡◌, length, sym, ap, ◌∙◌, arith}
use Rattle.std.proofs.lemmas.List.{length-map}
use Rattle.implied.specs.Lying.{clause_at}
use Rattle.implied.proofs.Pools.{clauses_pushed, lying_pushed}
use Rattle.implied.proofs.pool.Pool.push.Goals as goal

pub invariant_of-self : goal.invariant_of-self
invariant_of-self c =
    let old = c.self.inside in
    let start : c.in-Ok-try_from.start ≡ length old.numbers.items = omega (arith, old.numbers.ok.0, c.in-Ok-try_from.ensures) in
    rw (c.push_reserved.ensures.items, c.push_clause.ensures.items, start) (lying_pushed old.numbers.items old.starts.items c.args.clause.now c.self.invariant)

pub returns : goal.returns
returns c =
    let old = c.self.inside in
    let start : c.in-Ok-try_from.start ≡ length old.numbers.items = omega (arith, old.numbers.ok.0, c.in-Ok-try_from.ensures) in
    let count : c.in-Ok.c ≡ length old.starts.items = omega (arith, old.starts.ok.0, c.in-Ok.ensures) in (
      count ∙ sym (length-map old.starts.items (clause_at old.numbers.items)) ∙ ap (λ z. length z) c.self.view_is,
      rw (c.push_reserved.ensures.items, c.push_clause.ensures.items, start, ← c.self.view_is) (clauses_pushed old.numbers.items old.starts.items c.args.clause.now c.self.invariant),
    )
