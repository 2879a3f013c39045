-- How words of bits represent sets: the bits of an `or`, of a power of two, and of eight words.
use Rattle.std.proofs.Common.{◌≡◌, ℕ, zero, suc, ◌+◌, ◌-◌, ◌/◌, ◌%◌, ◌^◌, ◌<◌, ◌≤◌, false, ◌||◌, eqb, ◌≢◌, List, [], ◌∷◌, length, get_or, set, sym, refl, ap, ◌∙◌, subst, ⊎_elim, inl, inr, arith, get_or-set_other, get_or-set_same, pow_pos, pow-add}
use mathlib.Core.Bool.{or-false}
use denote.Param.Members.{Mut}
use Rattle.std.specs.Fn.{Called}
use Rattle.std.specs.Array.{IsFromFnResultFrom}
use native.Mathlib.Nat.{div-eq_of_lt}
use lib.Bits.{bit_or, or_shr, or_mod, shifted_even}
use lib.Pow.{pow-lt, shl-shr}
use Rattle.std.proofs.lemmas.Bool.{eq-eqb, ne_eqb, cases_eq, cases_lt, cases_order}
use Rattle.std.proofs.lemmas.Nat.{mod_below}
use Rattle.std.proofs.lemmas.List.{get_or_past}
use Rattle.held.specs.Explanations.{bit, contains, Adds}

or_bits : (x y : ℕ) → x < 2 → y < 2 → eqb (bit_or x y) 1 ≡ (eqb x 1 || eqb y 1)
or_bits zero zero p q = refl
or_bits zero (suc zero) p q = refl
or_bits zero (suc (suc y)) p q = absurd (omega arith)
or_bits (suc zero) zero p q = refl
or_bits (suc zero) (suc zero) p q = refl
or_bits (suc zero) (suc (suc y)) p q = absurd (omega arith)
or_bits (suc (suc x)) y p q = absurd (omega arith)

pub bit_or_lem : (a b k : ℕ) → bit (bit_or a b) k ≡ (bit a k || bit b k)
bit_or_lem a b k =
    ap (λ n. eqb (n % 2) 1) (or_shr a b k) ∙ ap (λ n. eqb n 1) (or_mod (a / 2 ^ k) (b / 2 ^ k) 1)
    ∙ or_bits (a / 2 ^ k % 2) (b / 2 ^ k % 2) (mod_below _ 2 (omega arith)) (mod_below _ 2 (omega arith))

pow_above : (i k : ℕ) → 2 ^ (suc i + k) / 2 ^ k % 2 ≡ 0
pow_above i k =
    ap (λ n. n / 2 ^ k % 2) (pow-add 2 (suc i) k) ∙ ap (λ n. n % 2) (shl-shr (2 ^ suc i) k)
    ∙ ap (λ n. n % 2) (omega arith) ∙ shifted_even 1 i

pub bit_pow : (j k : ℕ) → bit (2 ^ j) k ≡ eqb j k
bit_pow j k =
    elim (cases_order j k) [
      | inl e ↦
          ap (λ n. eqb (n / 2 ^ k % 2) 1) (ap (λ n. 2 ^ n) e ∙ omega arith) ∙ ap (λ n. eqb (n % 2) 1) (shl-shr 1 k) ∙ sym (eq-eqb j k e)
      | inr (inl lt) ↦
          ap (λ n. eqb (n % 2) 1) (div-eq_of_lt (pow-lt lt)) ∙ sym (ne_eqb j k (λ e. omega arith))
      | inr (inr gt) ↦
          let q : j ≡ suc (j - k - 1) + k = omega arith in
          ap (λ n. eqb n 1) (ap (λ n. 2 ^ n / 2 ^ k % 2) q ∙ pow_above (j - k - 1) k) ∙ sym (ne_eqb j k (λ e. omega arith))
    ]

pub bit_zero : (k : ℕ) → bit 0 k ≡ false
bit_zero k = ap (λ n. eqb (n % 2) 1) (div-eq_of_lt (pow_pos k))

pub past : (ws : List ℕ) (u : ℕ) → length ws ≡ 8 → 8 ≤ u / 64 → contains ws u ≡ false
past ws u long h = ap (λ n. bit n (u % 64)) (get_or_past ws (u / 64) 0 (omega arith)) ∙ bit_zero (u % 64)

same_word : (u v : ℕ) → v / 64 ≡ u / 64 → eqb (u % 64) (v % 64) ≡ eqb u v
same_word u v h =
    elim (cases_eq u v) [
      | inl e ↦ eq-eqb (u % 64) (v % 64) (ap (λ n. n % 64) e) ∙ sym (eq-eqb u v e)
      | inr ne ↦ ne_eqb (u % 64) (v % 64) (λ e. ne (omega arith)) ∙ sym (ne_eqb u v ne)
    ]

pub adds_one : (ws : List ℕ) (u x : ℕ) → length ws ≡ 8 → u / 64 < 8 → x ≡ 2 ^ (u % 64)
    → Adds ws (set ws (u / 64) (bit_or (get_or ws (u / 64) 0) x)) (u ∷ [])
adds_one ws u x long small is = record {
  has = λ v h.
      elim (cases_eq (v / 64) (u / 64)) [
        | inl e ↦
            ap (λ i. bit (get_or (set ws (u / 64) (bit_or (get_or ws (u / 64) 0) x)) i 0) (v % 64)) e
            ∙ ap (λ n. bit n (v % 64)) (get_or-set_same ws (u / 64) (bit_or (get_or ws (u / 64) 0) x) 0 (omega arith))
            ∙ bit_or_lem (get_or ws (u / 64) 0) x (v % 64)
            ∙ ap (λ n. bit (get_or ws n 0) (v % 64) || bit x (v % 64)) (sym e)
            ∙ ap (λ n. contains ws v || bit n (v % 64)) is
            ∙ ap (λ b. contains ws v || b) (bit_pow (u % 64) (v % 64) ∙ same_word u v e ∙ sym (or-false (eqb u v)))
        | inr ne ↦
            let other : v / 64 ≢ u / 64 = ne in
            ap (λ n. bit n (v % 64)) (get_or-set_other ws (u / 64) (v / 64) (bit_or (get_or ws (u / 64) 0) x) 0 other)
            ∙ sym (or-false (contains ws v))
            ∙ ap (λ b. contains ws v || b) (sym (ap (λ b. b || false) (ne_eqb u v (λ e. ne (sym (ap (λ n. n / 64) e))))))
      ];
}

-- each word of c is the `or` of those of a and b
pub contains_joined : (c a b : List ℕ) → length c ≡ 8 → length a ≡ 8 → length b ≡ 8
    → ((i : ℕ) → i < 8 → get_or c i 0 ≡ bit_or (get_or a i 0) (get_or b i 0)) → (u : ℕ) → contains c u ≡ (contains a u || contains b u)
contains_joined c a b p q r at u =
    elim (cases_lt (u / 64) 8) [
      | inl lt ↦ ap (λ n. bit n (u % 64)) (at (u / 64) lt) ∙ bit_or_lem (get_or a (u / 64) 0) (get_or b (u / 64) 0) (u % 64)
      | inr ge ↦ past c u p ge ∙ sym (ap (λ x. x || contains b u) (past a u q ge) ∙ past b u r ge)
    ]

-- what the calls of a closure at each index made
module _ {F : Type 0} (g : Mut F (ℕ × Unit {0}) ℕ) (f : F) (word : ℕ → ℕ) (gives : (i y : ℕ) (q : F) → i < 8 → Called g f (i, tt) y q → (y ≡ word i) × (q ≡ f)) where
  called_from : (n i : ℕ) (ys : List ℕ) → i + n ≤ 8 → IsFromFnResultFrom g f ys i n → (k : ℕ) → i ≤ k → k < i + n → get_or ys k 0 ≡ word k
  called_from zero i ys fits made k le lt = absurd (omega (arith, le, lt))
  called_from (suc n) i ys fits made k le lt =
      let now = gives i made.1 made.0 (omega (arith, fits)) made.3 in
      ⊎_elim
      (λ e. ap (λ j. get_or ys j 0) e ∙ made.2.1 0 ∙ now.0 ∙ ap word (sym e))
      (λ ne. called_from n (i + 1) ys (omega (arith, fits)) (subst (λ p. IsFromFnResultFrom g p ys (i + 1) n) now.1 made.4) k (omega (arith, le, ne)) (omega (arith, lt)))
      (cases_eq k i)

  pub called_each : (ys : List ℕ) → IsFromFnResultFrom g f ys 0 8 → (k : ℕ) → k < 8 → get_or ys k 0 ≡ word k
  called_each ys made k few = called_from 8 0 ys (omega arith) made k (omega arith) few
