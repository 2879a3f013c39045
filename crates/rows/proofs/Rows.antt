-- What comes of a row when a clause is put behind it or a variable is allotted, and that only variables below v count in it.
use Rattle.std.proofs.Common.{◌≡◌, ℕ, suc, ◌-◌, ◌*◌, ◌<◌, ◌≤◌, Bool, true, false, cond, ◌&&◌, ◌||◌, eqb, ltb, List, [], ◌∷◌, ◌++◌, length, sym, refl, ap, ◌∙◌, arith}
use mathlib.Core.Bool.{and_assoc, or_assoc, or-false}
use lib.Dec.{eqb-suc-zero}
use Rattle.std.proofs.lemmas.Bool.{and_parts, and_from, ltb-true, lt-ltb, cond-true, cond-false}
use Rattle.chooser.specs.Ways.{some, allotted}
use Rattle.rows.specs.Rows.{inside, holds}

pub holds_same : (f g : ℕ → Bool) (v : ℕ) → ((l : ℕ) → l < 2 * v → f l ≡ g l) → (xs : List ℕ) (m : Bool) (rest : ℕ) → inside v rest xs ≡ true → holds f m rest xs ≡ holds g m rest xs
holds_same f g v h [] m rest e = refl
holds_same f g v h (x ∷ xs) m rest e =
    elim (eqb rest 0) as (λ b. cond b (inside v x xs) (ltb x (2 * v) && inside v (rest - 1) xs) ≡ true → cond b (m && holds f false x xs) (holds f (m || f x) (rest - 1) xs) ≡ cond b (m && holds g false x xs) (holds g (m || g x) (rest - 1) xs)) [
      | true ↦ λ t. ap (λ z. m && z) (holds_same f g v h xs false x t)
      | false ↦ λ t.
          let p = and_parts (ltb x (2 * v)) (inside v (rest - 1) xs) t in
          ap (λ z. holds f (m || z) (rest - 1) xs) (h x (ltb-true x (2 * v) p.0)) ∙ holds_same f g v h xs (m || g x) (rest - 1) p.1
    ] e

-- one clause, from its first literal on
holds_run : (f : ℕ → Bool) (c : List ℕ) (m : Bool) → holds f m (length c) c ≡ (m || some f c)
holds_run f [] m = sym (or-false m)
holds_run f (x ∷ xs) m =
    let less : suc (length xs) - 1 ≡ length xs = omega arith in
    cond-false (eqb (suc (length xs)) 0) (m && holds f false x xs) (holds f (m || f x) (suc (length xs) - 1) xs) (eqb-suc-zero (length xs))
    ∙ ap (λ k. holds f (m || f x) k xs) less ∙ holds_run f xs (m || f x) ∙ or_assoc m (f x) (some f xs)

inside_run : (v : ℕ) (c : List ℕ) → allotted v c ≡ true → inside v (length c) c ≡ true
inside_run v [] e = refl
inside_run v (x ∷ xs) e =
    let less : suc (length xs) - 1 ≡ length xs = omega arith in
    let p = and_parts (ltb x (2 * v)) (allotted v xs) e in
    cond-false (eqb (suc (length xs)) 0) (inside v x xs) (ltb x (2 * v) && inside v (suc (length xs) - 1) xs) (eqb-suc-zero (length xs))
    ∙ and_from (ltb x (2 * v)) (inside v (suc (length xs) - 1) xs) p.0 (ap (λ k. inside v k xs) less ∙ inside_run v xs p.1)

-- a clause more
pub holds_append : (f : ℕ → Bool) (v : ℕ) (c xs : List ℕ) (m : Bool) (rest : ℕ) → inside v rest xs ≡ true → holds f m rest (xs ++ (length c ∷ c)) ≡ (holds f m rest xs && some f c)
holds_append f v c [] m rest e =
    cond-true (eqb rest 0) (m && holds f false (length c) c) (holds f (m || f (length c)) (rest - 1) c) e ∙ ap (λ z. m && z) (holds_run f c false)
holds_append f v c (x ∷ xs) m rest e =
    elim (eqb rest 0) as (λ b. cond b (inside v x xs) (ltb x (2 * v) && inside v (rest - 1) xs) ≡ true → cond b (m && holds f false x (xs ++ (length c ∷ c))) (holds f (m || f x) (rest - 1) (xs ++ (length c ∷ c))) ≡ (cond b (m && holds f false x xs) (holds f (m || f x) (rest - 1) xs) && some f c)) [
      | true ↦ λ t. ap (λ z. m && z) (holds_append f v c xs false x t) ∙ sym (and_assoc m (holds f false x xs) (some f c))
      | false ↦ λ t.
          let p = and_parts (ltb x (2 * v)) (inside v (rest - 1) xs) t in
          holds_append f v c xs (m || f x) (rest - 1) p.1
    ] e

pub inside_append : (v : ℕ) (c xs : List ℕ) (rest : ℕ) → inside v rest xs ≡ true → allotted v c ≡ true → inside v rest (xs ++ (length c ∷ c)) ≡ true
inside_append v c [] rest e a =
    cond-true (eqb rest 0) (inside v (length c) c) (ltb (length c) (2 * v) && inside v (rest - 1) c) e ∙ inside_run v c a
inside_append v c (x ∷ xs) rest e a =
    elim (eqb rest 0) as (λ b. cond b (inside v x xs) (ltb x (2 * v) && inside v (rest - 1) xs) ≡ true → cond b (inside v x (xs ++ (length c ∷ c))) (ltb x (2 * v) && inside v (rest - 1) (xs ++ (length c ∷ c))) ≡ true) [
      | true ↦ λ t. inside_append v c xs x t a
      | false ↦ λ t.
          let p = and_parts (ltb x (2 * v)) (inside v (rest - 1) xs) t in
          and_from (ltb x (2 * v)) (inside v (rest - 1) (xs ++ (length c ∷ c))) p.0 (inside_append v c xs (rest - 1) p.1 a)
    ] e

-- a variable more
pub inside_more : (v w : ℕ) (xs : List ℕ) (rest : ℕ) → v ≤ w → inside v rest xs ≡ true → inside w rest xs ≡ true
inside_more v w [] rest le e = e
inside_more v w (x ∷ xs) rest le e =
    elim (eqb rest 0) as (λ b. cond b (inside v x xs) (ltb x (2 * v) && inside v (rest - 1) xs) ≡ true → cond b (inside w x xs) (ltb x (2 * w) && inside w (rest - 1) xs) ≡ true) [
      | true ↦ λ t. inside_more v w xs x le t
      | false ↦ λ t.
          let p = and_parts (ltb x (2 * v)) (inside v (rest - 1) xs) t in
          let h : x < 2 * v = ltb-true x (2 * v) p.0 in
          and_from (ltb x (2 * w)) (inside w (rest - 1) xs) (lt-ltb x (2 * w) (omega arith)) (inside_more v w xs (rest - 1) le p.1)
    ] e
