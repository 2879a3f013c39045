use Rattle.std.proofs.Common.{◌≡◌, ℕ, List, true, ◌*◌, ◌/◌, ◌<◌, length, get_or, ap, ◌∙◌, sym, subst, arith}
use Rattle.std.proofs.lemmas.Bool.{both_ways}
use Rattle.std.proofs.lemmas.List.{get_or_default}
use Rattle.rows.proofs.Lits.{bits_from, allotted_at}
use Rattle.chooser.specs.Ways.{lit, written}
use Rattle.rows.specs.Rows.{holds}
use Rattle.implied.specs.Implied.{allowed}
use Rattle.trail.specs.Values.{value_at}
use Rattle.outcome.proofs.Checks.{byte_small, refuted_from, both_dead}
use Rattle.outcome.proofs.conclude.Goals as goal

pub returns-then-not-is_open : goal.returns-then-not-is_open
returns-then-not-is_open c =
    let s = c.args.search.now in
    let t = s.trail in
    let out = c.write.new.out in
    let given = c.args.given.now in
    let size = length c.args.out.now in
    let g = c.in-Some-denied.g in
    let missed = c.in-Some-denied.ensures in
    let k = missed.among.0 in
    let lt = missed.among.1 in
    let is : get_or given k 0 ≡ g = get_or_default given k 0 g lt ∙ missed.among.2 in
    let wide = s.steady.wide in
    let same = c.write.auto.out in
    let few = c.requires.asks.few in
    let below : get_or given k 0 < 2 * size = allotted_at size given k c.requires.asks.named lt in
    let at = c.requires.assumed k lt in
    both_dead (allowed s.facts.store.row.items) t.values t.positions t.steps.items s.steady g at.0 at.1 (at.2 ∙ is)
    (refuted_from t.values out g (c.write.ensures (g / 2) (omega arith)) (omega arith) (λ free. both_ways c.is_open.result c.if-not-is_open.true (c.is_open.ensures.shut free)) missed.off)

pub returns-in_default-denied : goal.returns-in_default-denied
returns-in_default-denied c =
    let t = c.args.search.now.trail in
    let out = c.write.new.out in
    record {
      binary = bits_from out (λ k lt. subst (λ z. z < 2) (sym (c.write.ensures k lt)) (byte_small (value_at t.values k)));
      met = ap (λ (row : List ℕ). holds (lit (written out)) true 0 row) (sym c.row.ensures.value) ∙ c.in_default.ensures;
      agreed = c.in_default-denied.ensures;
    }
