-- No call of an opening is refused, and the clauses of the pairs add up. Assumes nothing.
use Rattle.std.proofs.Common.{◌≡◌, ℕ, zero, suc, ◌+◌, ◌*◌, ◌<◌, ◌≤◌, true, ◌⊎◌, List, [], ◌∷◌, length, sym, refl, ap, ◌∙◌, subst, inl, inr, add-one, arith}
use Rattle.std.proofs.lemmas.Bool.{and_from, cases_lt}
use Rattle.chooser.specs.Ways.{allotted}
use Rattle.chooser.specs.Meaning.{Meaning}
use Rattle.chooser.specs.Steps.{Added, add_refusal}
use Rattle.chooser.specs.Faults.{fault_number}
use Rattle.chooser.specs.declared.Fault.{Fault}
use Rattle.finder.specs.Clauses.{on, off, some_case, not_with, not_two, entries, opening_entries, Extended}
use Rattle.finder.proofs.Clauses.{entries_join, not_with_entries, opening_takes}
use Rattle.finder.proofs.Asking.{every_join}
use Rattle.finder.proofs.Extended.{extending}
use Rattle.recording.proofs.Clauses.{allotted_one, allotted_cons, not_refused}

-- the clause that one of the cases holds
pub cases_allotted : (v a m : ℕ) → a + m ≤ v → allotted v (some_case a m) ≡ true
cases_allotted v a zero h = refl
cases_allotted v a (suc m) h =
    every_join _ (some_case a m) (on (a + m) ∷ [])
    ∙ and_from _ _ (cases_allotted v a m (omega (arith, h))) (allotted_one v (on (a + m)) (omega (arith, h)))

pub takes_cases : (a m : ℕ) (ls : List ℕ) → ls ≡ some_case a m → length ls + 1 + entries (not_two a m) ≡ opening_entries m
takes_cases a m ls e = ap (λ xs. length xs + 1 + entries (not_two a m)) e ∙ opening_takes a m

-- the clauses of the pairs
two_entries : (a m : ℕ) → entries (not_two a (suc m)) ≡ entries (not_two a m) + 3 * m
two_entries a m =
    let j = entries_join (not_two a m) (not_with a m m) in
    let w = not_with_entries a m m in
    omega (arith, j, w)

-- a pair is one of those that are left
pair_left : (a d c m : ℕ) → d < c → c < m → entries (not_two a c) + (entries (not_with a c d) + 3) ≤ entries (not_two a m)
pair_left a d c zero k l = absurd (omega (arith, l))
pair_left a d c (suc m) k l = go (cases_lt c m) (pair_left a d c m k)
  where
    go : (c < m) ⊎ (m ≤ c) → (c < m → entries (not_two a c) + (entries (not_with a c d) + 3) ≤ entries (not_two a m))
        → entries (not_two a c) + (entries (not_with a c d) + 3) ≤ entries (not_two a (suc m))
    go (inl q) ih =
        let h = ih q in
        let t = two_entries a m in
        omega (arith, h, t)
    go (inr q) ih =
        let same : c ≡ m = omega (arith, q, l) in
        let t = two_entries a m in
        let w = not_with_entries a c d in
        let e = ap (λ n. entries (not_two a n)) same in
        omega (arith, t, w, e, same, k)

pub pair_refused : (M M₁ M₂ : Meaning) (a d c m : ℕ) (e : Fault) → a + m ≤ M.count → entries (not_two a m) ≤ M.left
    → Extended M M₁ 0 (not_two a c) → Extended M₁ M₂ 0 (not_with a c d) → d < c → c < m
    → fault_number e ≡ add_refusal M₂ (off (a + d) ∷ (off (a + c) ∷ [])) → ⊥
pair_refused M M₁ M₂ a d c m e named fits x y k l n =
    let p = pair_left a d c m k l in
    let x₁ = x.counts in
    let y₁ = y.counts in
    let x₂ = x.spends in
    let y₂ = y.spends in
    not_refused M₂ (off (a + d) ∷ (off (a + c) ∷ [])) e n
    (allotted_cons M₂.count (off (a + d)) (off (a + c) ∷ []) (omega (arith, x₁, y₁, named, k, l)) (allotted_one M₂.count (off (a + c)) (omega (arith, x₁, y₁, named, k, l))))
    (omega (arith, x₂, y₂, fits, p))

pub one_more_pair : (M M₁ M₂ : Meaning) (a d c : ℕ) → Extended M M₁ 0 (not_with a c d) → Added M₁ M₂ (off (a + d) ∷ (off (a + c) ∷ []))
    → Extended M M₂ 0 (not_with a c (d + 1))
one_more_pair M M₁ M₂ a d c x y =
    subst (λ n. Extended M M₂ 0 (not_with a c n)) (sym (add-one d))
    (extending.one_by_one M M₁ M₂ 0 0 (not_with a c d) _ x (extending.by_clause M₁ M₂ _ y))

pub one_more_case : (M M₁ M₂ : Meaning) (a c : ℕ) → Extended M M₁ 0 (not_two a c) → Extended M₁ M₂ 0 (not_with a c c)
    → Extended M M₂ 0 (not_two a (c + 1))
one_more_case M M₁ M₂ a c x y =
    subst (λ n. Extended M M₂ 0 (not_two a n)) (sym (add-one c))
    (extending.one_by_one M M₁ M₂ 0 0 (not_two a c) (not_with a c c) x y)
