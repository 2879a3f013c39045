use Rattle.std.proofs.Common.{ℕ, ◌*◌, ◌/◌, ◌<◌, length, get_or, None, arith, rules}
use Rattle.std.proofs.lemmas.Bool.{both_ways, false_from_ne_true}
use Rattle.std.proofs.lemmas.List.Folds.{list_any_at}
use Rattle.std.proofs.lemmas.Iterator.{YieldsList-from_slice, first_from_find}
use borrow.Author.Tests.{tests}
use Rattle.chooser.specs.Ways.{lit, written}
use Rattle.rows.proofs.Lits.{allotted_at}
use Rattle.implied.specs.Implied.{allowed}
use Rattle.trail.specs.Values.{Free}
use Rattle.outcome.proofs.Checks.{all_refuted, refuted_from}
use Rattle.outcome.proofs.reopen.Goals as goal

pub returns-in-None : goal.returns-in-None
returns-in-None c =
    let s = c.args.search.now in
    let t = s.trail in
    let out = c.args.out.now in
    let clause = c.args.clause.now in
    let failing = c.requires.failing in
    let wide = s.steady.wide in
    let few = c.requires.few in
    let none = first_from_find _ _ None (λ l. Free t.values l) (λ l. Free t.values l → ⊥) c.in-None.ensures.ran (YieldsList-from_slice clause cc) (λ x q k. search (rules, tests)) (λ x q k. search (rules, tests)) in
    let shut : (k : ℕ) → k < length clause → Free t.values (get_or clause k 0) → ⊥ = λ k lt. none k 0 (omega arith) lt in
    all_refuted (allowed s.facts.store.row.items) t.values t.positions t.steps.items s.steady clause failing.known
    (λ k lt.
    let l = get_or clause k 0 in
    let below : l < 2 * length out = allotted_at (length out) clause k failing.named lt in
    refuted_from t.values out l (c.requires.copied (l / 2) (omega arith)) (omega arith) (shut k lt)
    (false_from_ne_true (lit (written out) l) (λ e. both_ways _ failing.off (list_any_at (lit (written out)) clause k 0 lt e))))
