-- A row taken apart at its first clause: what comes of that clause, and of the row behind it.
use Rattle.std.proofs.Common.{◌≡◌, ℕ, zero, suc, ◌+◌, ◌-◌, ◌*◌, ◌<◌, ◌≤◌, Bool, true, false, ◌&&◌, ◌||◌, eqb, ltb, List, [], ◌∷◌, length, min, take, drop, sym, refl, ap, ◌∙◌, subst, ⊎_elim, arith}
use mathlib.Core.Bool.{and-true, or-false, or_assoc}
use lib.Dec.{eqb-suc-zero}
use Rattle.std.proofs.lemmas.List.{take_all, drop_all, length-take-le}
use Rattle.std.proofs.lemmas.List.Sums.{sum_by-cons}
use Rattle.std.proofs.lemmas.Bool.{eqb-true, cases_lt, and_parts, and_from, both_ways, cond-false, false_from_ne_true}
use Rattle.std.specs.List.{list_all, sum_by}
use Rattle.chooser.specs.Ways.{some, allotted}
use Rattle.rows.specs.Rows.{inside, holds, clauses_behind, clauses_of}

pub record Whole (v n : ℕ) (xs : List ℕ) : Type 0 where
  pub fits : n ≤ length xs
  pub named : allotted v (take n xs) ≡ true
  pub behind : inside v 0 (drop n xs) ≡ true

pub inside_clause : (v n : ℕ) (xs : List ℕ) → inside v n xs ≡ true → Whole v n xs
inside_clause v zero xs e = record { fits = omega arith; named = refl; behind = e }
inside_clause v (suc n) [] e = absurd (both_ways (eqb (suc n) 0) (eqb-suc-zero n) e)
inside_clause v (suc n) (x ∷ xs) e =
    let less : suc n - 1 ≡ n = omega arith in
    let parts = and_parts (ltb x (2 * v)) (inside v (suc n - 1) xs) (sym (cond-false (eqb (suc n) 0) (inside v x xs) (ltb x (2 * v) && inside v (suc n - 1) xs) (eqb-suc-zero n)) ∙ e) in
    let rest = inside_clause v n xs (ap (λ k. inside v k xs) (sym less) ∙ parts.1) in
    record { fits = let h = rest.fits in omega arith; named = and_from (ltb x (2 * v)) (allotted v (take n xs)) parts.0 rest.named; behind = rest.behind }

-- one clause more is whole, or it is cut short or has a literal that is not allotted
module _ (v : ℕ) where
  pub inside_short : (n : ℕ) (xs : List ℕ) → length xs < n → inside v n xs ≡ false
  inside_short n xs lt = false_from_ne_true (inside v n xs) (λ e. let h = (inside_clause v n xs e).fits in omega arith)

  pub inside_strange : (n : ℕ) (xs : List ℕ) → allotted v (take n xs) ≡ false → inside v n xs ≡ false
  inside_strange n xs off = false_from_ne_true (inside v n xs) (λ e. both_ways (allotted v (take n xs)) off (inside_clause v n xs e).named)

  pub inside_next : (n : ℕ) (xs : List ℕ) → n ≤ length xs → allotted v (take n xs) ≡ true → inside v n xs ≡ inside v 0 (drop n xs)
  inside_next zero xs le on = refl
  inside_next (suc n) [] le on = let z : ⊥ = omega arith in absurd z
  inside_next (suc n) (x ∷ xs) le on =
      let less : suc n - 1 ≡ n = omega arith in
      let p = and_parts (ltb x (2 * v)) (allotted v (take n xs)) on in
      cond-false (eqb (suc n) 0) (inside v x xs) (ltb x (2 * v) && inside v (suc n - 1) xs) (eqb-suc-zero n)
      ∙ ap (λ b. b && inside v (suc n - 1) xs) p.0
      ∙ ap (λ k. inside v k xs) less
      ∙ inside_next n xs (omega arith) p.1

behind_more : (n x : ℕ) (xs : List ℕ) → clauses_behind (suc n) (x ∷ xs) ≡ clauses_behind n xs
behind_more n x xs =
    let less : suc n - 1 ≡ n = omega arith in
    cond-false (eqb (suc n) 0) (take x xs ∷ clauses_behind x xs) (clauses_behind (suc n - 1) xs) (eqb-suc-zero n) ∙ ap (λ k. clauses_behind k xs) less

-- a row is met where each of its clauses is
holds_behind : (f : ℕ → Bool) (m : Bool) (n : ℕ) (xs : List ℕ) → holds f m n xs ≡ ((m || some f (take n xs)) && list_all (some f) (clauses_behind n xs))
holds_behind f m zero [] = sym (and-true (m || false) ∙ or-false m)
holds_behind f m (suc n) [] = sym (and-true (m || false) ∙ or-false m)
holds_behind f m zero (x ∷ xs) = ap (λ b. m && b) (holds_behind f false x xs) ∙ ap (λ b. b && (some f (take x xs) && list_all (some f) (clauses_behind x xs))) (sym (or-false m))
holds_behind f m (suc n) (x ∷ xs) =
    let less : suc n - 1 ≡ n = omega arith in
    cond-false (eqb (suc n) 0) (m && holds f false x xs) (holds f (m || f x) (suc n - 1) xs) (eqb-suc-zero n)
    ∙ ap (λ k. holds f (m || f x) k xs) less
    ∙ holds_behind f (m || f x) n xs
    ∙ ap (λ b. b && list_all (some f) (clauses_behind n xs)) (or_assoc m (f x) (some f (take n xs)))
    ∙ ap (λ l. (m || (f x || some f (take n xs))) && list_all (some f) l) (sym (behind_more n x xs))

pub holds_clauses : (f : ℕ → Bool) (row : List ℕ) → holds f true 0 row ≡ list_all (some f) (clauses_of row)
holds_clauses f row = holds_behind f true 0 row

-- the clauses of a whole row have allotted literals
pub clauses_named : (v n : ℕ) (xs : List ℕ) → inside v n xs ≡ true → list_all (allotted v) (clauses_behind n xs) ≡ true
clauses_named v n [] e = refl
clauses_named v zero (x ∷ xs) e = and_from (allotted v (take x xs)) (list_all (allotted v) (clauses_behind x xs)) (inside_clause v x xs e).named (clauses_named v x xs e)
clauses_named v (suc n) (x ∷ xs) e =
    let less : suc n - 1 ≡ n = omega arith in
    let p = and_parts (ltb x (2 * v)) (inside v (suc n - 1) xs) (sym (cond-false (eqb (suc n) 0) (inside v x xs) (ltb x (2 * v) && inside v (suc n - 1) xs) (eqb-suc-zero n)) ∙ e) in
    ap (list_all (allotted v)) (behind_more n x xs) ∙ clauses_named v n xs (ap (λ k. inside v k xs) (sym less) ∙ p.1)

-- and each number of the row is a literal of one of them, or its length
pub clauses_spread : (v n : ℕ) (xs : List ℕ) → inside v n xs ≡ true → sum_by (λ c. length c + 1) (clauses_behind n xs) + n ≡ length xs
clauses_spread v n [] e = omega (arith, eqb-true n 0 e)
clauses_spread v zero (x ∷ xs) e =
    let long = length-take-le x xs (inside_clause v x xs e).fits in
    omega (arith, clauses_spread v x xs e, sum_by-cons (λ c. length c + 1) (take x xs) (clauses_behind x xs))
clauses_spread v (suc n) (x ∷ xs) e =
    let less : suc n - 1 ≡ n = omega arith in
    let p = and_parts (ltb x (2 * v)) (inside v (suc n - 1) xs) (sym (cond-false (eqb (suc n) 0) (inside v x xs) (ltb x (2 * v) && inside v (suc n - 1) xs) (eqb-suc-zero n)) ∙ e) in
    omega (arith, clauses_spread v n xs (ap (λ k. inside v k xs) (sym less) ∙ p.1), ap (sum_by (λ c. length c + 1)) (behind_more n x xs))

clauses_drop : (n : ℕ) (xs : List ℕ) → clauses_behind n xs ≡ clauses_of (drop n xs)
clauses_drop zero xs = refl
clauses_drop (suc n) [] = refl
clauses_drop (suc n) (x ∷ xs) = behind_more n x xs ∙ clauses_drop n xs

-- the first clause, and the row behind it
pub clauses_first : (n k : ℕ) (xs : List ℕ) → k ≡ min (length xs) n → clauses_of (n ∷ xs) ≡ take k xs ∷ clauses_of (drop k xs)
clauses_first n k xs is =
    ⊎_elim
    (λ lt. let e : k ≡ n = omega arith in subst (λ i. clauses_of (n ∷ xs) ≡ take i xs ∷ clauses_of (drop i xs)) (sym e) (ap (λ l. take n xs ∷ l) (clauses_drop n xs)))
    (λ ge.
    let e : length xs ≤ k = omega arith in
    ap (λ l. take n xs ∷ l) (clauses_drop n xs ∙ ap clauses_of (drop_all n xs ge ∙ sym (drop_all k xs e))) ∙ ap (λ l. l ∷ clauses_of (drop k xs)) (take_all n xs ge ∙ sym (take_all k xs e)))
    (cases_lt n (length xs))

-- the clauses that are left are fewer
pub clauses_fewer : (row : List ℕ) (clause : List ℕ) (next : List ℕ) → clauses_of row ≡ clause ∷ clauses_of next → length (clauses_of next) < length (clauses_of row)
clauses_fewer row clause next e = omega (arith, ap length e)
