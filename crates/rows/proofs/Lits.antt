-- Literals under two ways, and lists of literals of which some or every one passes.
use Rattle.std.proofs.Common.{◌≡◌, ℕ, suc, ◌+◌, ◌-◌, ◌*◌, ◌/◌, ◌%◌, ◌<◌, Bool, true, false, cond, not, ◌&&◌, eqb, ltb, ◌⊎◌, List, [], ◌∷◌, length, get_or, sym, refl, ap, ◌∙◌, subst, ⊎_elim, arith}
use Rattle.std.proofs.Math.Bool.{not-not}
use Rattle.std.proofs.lemmas.Bool.{and_parts, or_cases, not-true, both_ways, ltb-true, lt-ltb, le-ltb, cases_lt, cases_eq, cond-true, cond-false, eq-eqb, ne_eqb}
use Rattle.std.proofs.lemmas.List.Elements.{All-from_get_or}
use Rattle.std.proofs.lemmas.List.Sums.{AllPass-from_list_all, list_all-from_AllPass}
use Rattle.chooser.specs.Ways.{lit, some, every, allotted, bits}
use Rattle.rows.specs.Lits.{opposite}

-- a literal says the same of two ways that give its variable one value
pub lit_same : (p q : ℕ → Bool) (l : ℕ) → p (l / 2) ≡ q (l / 2) → lit p l ≡ lit q l
lit_same p q l e = ap (λ b. cond (eqb (l % 2) 0) b (not b)) e

-- and two ways that both have a literal give its variable one value
pub lit_fixes : (p q : ℕ → Bool) (l : ℕ) → lit p l ≡ true → lit q l ≡ true → p (l / 2) ≡ q (l / 2)
lit_fixes p q l a b =
    elim (eqb (l % 2) 0) as (λ e. cond e (p (l / 2)) (not (p (l / 2))) ≡ true → cond e (q (l / 2)) (not (q (l / 2))) ≡ true → p (l / 2) ≡ q (l / 2)) [
      | true ↦ λ x y. x ∙ sym y
      | false ↦ λ x y. not-true (p (l / 2)) x ∙ sym (not-true (q (l / 2)) y)
    ] a b

-- two ways that agree below v agree on each literal below 2 v
pub lit_below : (p q : ℕ → Bool) (v : ℕ) → ((k : ℕ) → k < v → p k ≡ q k) → (l : ℕ) → l < 2 * v → lit p l ≡ lit q l
lit_below p q v h l lt = lit_same p q l (h (l / 2) (omega arith))

module _ (f : ℕ → Bool) where
  -- where all but one literal fail, that one passes
  pub some_only : (q : ℕ) (c : List ℕ) → ((k : ℕ) → k < length c → (f (get_or c k 0) ≡ false) ⊎ (get_or c k 0 ≡ q)) → some f c ≡ true → f q ≡ true
  some_only q [] h e = absurd (both_ways false refl e)
  some_only q (x ∷ xs) h e =
      ⊎_elim
      (λ a. ⊎_elim (λ off. absurd (both_ways (f x) off a)) (λ is. subst (λ k. f k ≡ true) is a) (h 0 (omega arith)))
      (λ b. some_only q xs (λ k l. h (suc k) (omega arith)) b)
      (or_cases (f x) (some f xs) e)

-- half of a literal, as the code tests it
pub half_below : (l v : ℕ) → ltb (l / 2) v ≡ ltb l (2 * v)
half_below l v = ⊎_elim (λ lt. lt-ltb (l / 2) v (omega arith) ∙ sym (lt-ltb l (2 * v) lt)) (λ ge. le-ltb (l / 2) v (omega arith) ∙ sym (le-ltb l (2 * v) ge)) (cases_lt l (2 * v))

pub allotted_at : (v : ℕ) (c : List ℕ) (k : ℕ) → allotted v c ≡ true → k < length c → get_or c k 0 < 2 * v
allotted_at v c k e lt = ltb-true (get_or c k 0) (2 * v) (AllPass-from_list_all (λ l. ltb l (2 * v)) c e k 0 lt)

pub every_same : (f g : ℕ → Bool) (v : ℕ) → ((l : ℕ) → l < 2 * v → f l ≡ g l) → (xs : List ℕ) → allotted v xs ≡ true → every f xs ≡ every g xs
every_same f g v h [] e = refl
every_same f g v h (x ∷ xs) e =
    let p = and_parts (ltb x (2 * v)) (allotted v xs) e in
    ap (λ b. b && every f xs) (h x (ltb-true x (2 * v) p.0)) ∙ ap (λ b. g x && b) (every_same f g v h xs p.1)

pub bits_from : (xs : List ℕ) → ((k : ℕ) → k < length xs → get_or xs k 0 < 2) → bits xs ≡ true
bits_from xs h = list_all-from_AllPass (λ x. ltb x 2) xs (All-from_get_or (λ x. ltb x 2 ≡ true) xs 0 (λ k l. lt-ltb (get_or xs k 0) 2 (h k l)))

module _ (l : ℕ) where
  pub opposite_variable : opposite l / 2 ≡ l / 2
  opposite_variable =
      ⊎_elim
      (λ z. ap (λ k. k / 2) (cond-true (eqb (l % 2) 0) (l + 1) (l - 1) (eq-eqb (l % 2) 0 z)) ∙ (let h : (l + 1) / 2 ≡ l / 2 = omega arith in h))
      (λ nz. ap (λ k. k / 2) (cond-false (eqb (l % 2) 0) (l + 1) (l - 1) (ne_eqb (l % 2) 0 nz)) ∙ (let h : (l - 1) / 2 ≡ l / 2 = omega arith in h))
      (cases_eq (l % 2) 0)

  pub lit_opposite : (p : ℕ → Bool) → lit p (opposite l) ≡ not (lit p l)
  lit_opposite p =
      ⊎_elim
      (λ z.
      let odd : (l + 1) % 2 ≡ 0 → ⊥ = λ h. omega arith in
      let same : (l + 1) / 2 ≡ l / 2 = omega arith in
      ap (lit p) (cond-true (eqb (l % 2) 0) (l + 1) (l - 1) (eq-eqb (l % 2) 0 z))
      ∙ cond-false (eqb ((l + 1) % 2) 0) (p ((l + 1) / 2)) (not (p ((l + 1) / 2))) (ne_eqb ((l + 1) % 2) 0 odd)
      ∙ ap (λ k. not (p k)) same
      ∙ ap not (sym (cond-true (eqb (l % 2) 0) (p (l / 2)) (not (p (l / 2))) (eq-eqb (l % 2) 0 z))))
      (λ nz.
      let even : (l - 1) % 2 ≡ 0 = omega arith in
      let same : (l - 1) / 2 ≡ l / 2 = omega arith in
      ap (lit p) (cond-false (eqb (l % 2) 0) (l + 1) (l - 1) (ne_eqb (l % 2) 0 nz))
      ∙ cond-true (eqb ((l - 1) % 2) 0) (p ((l - 1) / 2)) (not (p ((l - 1) / 2))) (eq-eqb ((l - 1) % 2) 0 even)
      ∙ ap p same
      ∙ sym (not-not (p (l / 2)))
      ∙ ap not (sym (cond-false (eqb (l % 2) 0) (p (l / 2)) (not (p (l / 2))) (ne_eqb (l % 2) 0 nz))))
      (cases_eq (l % 2) 0)
