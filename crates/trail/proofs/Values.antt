-- The value that makes a literal true, and how the count of open variables changes with one write.
use Rattle.std.proofs.Common.{◌≡◌, ℕ, ◌+◌, ◌/◌, ◌%◌, ◌<◌, ◌≤◌, true, false, cond, eqb, List, length, set, sym, ap, ◌∙◌, ⊎_elim, arith}
use Rattle.std.proofs.lemmas.Bool.{cases_eq, cases_lt, cond-true, cond-false, eq-eqb, ne_eqb}
use Rattle.std.proofs.lemmas.List.{get_or_past}
use Rattle.std.proofs.lemmas.List.Sums.{sum_by-set, count_by-le-length}
use Rattle.trail.specs.declared.step.Value.{Value}
use Rattle.trail.specs.declared.step.Value.TheVariants.{False, True, Open}
use Rattle.trail.specs.Values.{value_at, making, breaking, Free, is_open, opens}

-- a literal is even or odd
module _ (l : ℕ) where
  pub making_even : l % 2 ≡ 0 → making l ≡ True
  making_even e = cond-true (eqb (l % 2) 0) True False (eq-eqb (l % 2) 0 e)

  pub making_odd : (l % 2 ≡ 0 → ⊥) → making l ≡ False
  making_odd ne = cond-false (eqb (l % 2) 0) True False (ne_eqb (l % 2) 0 ne)

  breaking_even : l % 2 ≡ 0 → breaking l ≡ False
  breaking_even e = cond-true (eqb (l % 2) 0) False True (eq-eqb (l % 2) 0 e)

  breaking_odd : (l % 2 ≡ 0 → ⊥) → breaking l ≡ True
  breaking_odd ne = cond-false (eqb (l % 2) 0) False True (ne_eqb (l % 2) 0 ne)

  pub making_closed : is_open (making l) ≡ false
  making_closed = ⊎_elim (λ e. ap is_open (making_even e)) (λ ne. ap is_open (making_odd ne)) (cases_eq (l % 2) 0)

  pub making_not_open : making l ≡ Open → ⊥
  making_not_open e = let o : is_open (making l) ≡ true = ap is_open e in let c = making_closed in cc

  -- the value that makes the other literal of the variable true makes this one false
  pub making_other : (r : ℕ) → r / 2 ≡ l / 2 → (r ≡ l → ⊥) → making r ≡ breaking l
  making_other r half ne =
      ⊎_elim
      (λ e. let odd : r % 2 ≡ 0 → ⊥ = λ z. let same : r ≡ l = omega arith in ne same in cond-false (eqb (r % 2) 0) True False (ne_eqb (r % 2) 0 odd) ∙ sym (breaking_even e))
      (λ o. let even : r % 2 ≡ 0 = ⊎_elim (λ z. z) (λ z. let same : r ≡ l = omega arith in absurd (ne same)) (cases_eq (r % 2) 0) in
      cond-true (eqb (r % 2) 0) True False (eq-eqb (r % 2) 0 even) ∙ sym (breaking_odd o))
      (cases_eq (l % 2) 0)

pub making_parity : (l m : ℕ) → making l ≡ making m → l % 2 ≡ m % 2
making_parity l m e =
    ⊎_elim
    (λ a. ⊎_elim (λ b. a ∙ sym b) (λ b. let x = making_even l a in let y = making_odd m b in let z : ⊥ = cc in absurd z) (cases_eq (m % 2) 0))
    (λ a. ⊎_elim (λ b. let x = making_odd l a in let y = making_even m b in let z : ⊥ = cc in absurd z) (λ b. omega arith) (cases_eq (m % 2) 0))
    (cases_eq (l % 2) 0)

-- an open variable is one that the values have
pub free_within : (values : List Value) (l : ℕ) → Free values l → l / 2 < length values
free_within values l free = ⊎_elim (λ lt. lt) (λ ge. let past = get_or_past values (l / 2) False ge in let z : ⊥ = cc in absurd z) (cases_lt (l / 2) (length values))

pub opens_most : (xs : List Value) → opens xs ≤ length xs
opens_most xs = count_by-le-length is_open xs

one : (x : Value) → cond (is_open x) 1 0 ≤ 1
one False = omega arith
one True = omega arith
one Open = omega arith

module _ (values : List Value) (v : ℕ) (within : v < length values) where
  -- a write adds one open variable at most
  pub opens_set : (y : Value) → opens (set values v y) ≤ opens values + 1
  opens_set y = let s = sum_by-set (λ x. cond (is_open x) 1 0) values v y False within in let o = one y in omega arith

  -- a value given to an open variable takes one away
  pub opens_less : (y : Value) → value_at values v ≡ Open → is_open y ≡ false → opens (set values v y) + 1 ≡ opens values
  opens_less y free closed =
      let s = sum_by-set (λ x. cond (is_open x) 1 0) values v y False within in
      let a : cond {A = ℕ} (is_open (value_at values v)) 1 0 ≡ 1 = ap (λ x. cond (is_open x) 1 0) free in
      let b : cond {A = ℕ} (is_open y) 1 0 ≡ 0 = ap (λ x. cond x 1 0) closed in
      omega arith
