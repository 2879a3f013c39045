use Rattle.std.proofs.Common.{◌≡◌, ℕ, ◌+◌, ◌-◌, ◌<◌, ◌≤◌, ◌⊎◌, List, length, get_or, take, drop, refl, ap, ◌∙◌, subst, ⊎_elim, arith}
use Rattle.std.proofs.lemmas.Bool.{cases_lt}
use Rattle.std.proofs.lemmas.List.{get_or-take, get_or-drop, length-take-le, length-drop}
use Rattle.chooser.specs.Ways.{lit, some}
use Rattle.implied.specs.Implied.{allowed}
use Rattle.trail.specs.Values.{Refuted}
use Rattle.trail.proofs.Sounds.{grew_none}
use Rattle.propagate.proofs.Units.{unit_follows, clash_dead, onward_push}
use Rattle.propagate.proofs.visit.visit_clause.Goals as goal

-- what holds of each item of both parts of a list holds of each item of the list
joined : (P : ℕ → Type 0) (xs front back : List ℕ) (k : ℕ) → k ≤ length xs → front ≡ take k xs → back ≡ drop k xs → ((i : ℕ) → i < length front → P (get_or front i 0)) → ((i : ℕ) → i < length back → P (get_or back i 0)) → (i : ℕ) → i < length xs → P (get_or xs i 0)
joined P xs front back k le first second low high i lt =
    let long : length front ≡ k = ap (λ z. length z) first ∙ length-take-le k xs le in
    let rest : length back ≡ length xs - k = ap (λ z. length z) second ∙ length-drop k xs in
    ⊎_elim
    (λ less. subst P (ap (λ z. get_or z i 0) first ∙ get_or-take k xs i 0 less) (low i (omega arith)))
    (λ more.
    let at : k + (i - k) ≡ i = omega arith in
    subst P (ap (λ z. get_or z (i - k) 0) second ∙ get_or-drop k xs (i - k) 0 ∙ ap (λ z. get_or xs z 0) at) (high (i - k) (omega arith)))
    (cases_lt i k)

pub push-requires : goal.push-requires
push-requires c _ =
    let s = c.args.search.now in
    let t = s.trail in
    let clause = c.in-Some.clause.now in
    let known = c.in-Some.ensures.clause in
    let parts = c.split_at.ensures in
    unit_follows (allowed s.facts.store.row.items) t.values t.positions t.steps.items s.steady clause c.args.other
    (λ p x. ap (some (lit p)) known.1 ∙ s.facts.met c.args.c known.0 p x)
    (joined (λ m. (m ≡ c.args.other) ⊎ Refuted t.values m) clause _ _ c.min-from.result (omega arith) parts.front parts.back c.in_default-scan-2.ensures.none c.in_default-scan.ensures.none)

pub returns-then-is_false : goal.returns-then-is_false
returns-then-is_false c =
    let s = c.args.search.now in
    let t = s.trail in
    let clause = c.in-Some.clause.now in
    let known = c.in-Some.ensures.clause in
    let parts = c.split_at.ensures in (
      record { facts = refl; grew = grew_none t.steps.items },
      clash_dead (allowed s.facts.store.row.items) t.values t.positions t.steps.items s.steady clause c.args.other
          (λ p x. ap (some (lit p)) known.1 ∙ s.facts.met c.args.c known.0 p x)
          (joined (λ m. (m ≡ c.args.other) ⊎ Refuted t.values m) clause _ _ c.min-from.result (omega arith) parts.front parts.back c.in_default-scan-2.ensures.none c.in_default-scan.ensures.none)
          (c.is_false.ensures c.if-is_false.true),
    )

pub returns : goal.returns
returns c = let o = onward_push _ c.push.new.self c.args.other c.args.c c.push.result c.push.ensures in record { facts = o.facts; grew = o.grew }
