-- Values of which some are open: writing one, counting the open ones, and what the values make of a literal.
use Rattle.std.proofs.Common.{◌≡◌, ℕ, ◌+◌, ◌/◌, ◌%◌, ◌<◌, ◌≤◌, true, cond, not, eqb, List, length, get_or, set, ◌∙◌, ⊎_elim, arith, get_or-set_same}
use Rattle.std.proofs.lemmas.Bool.{cases_eq, cond-true, cond-false, eq-eqb, ne_eqb, not_from_false}
use Rattle.std.proofs.lemmas.List.Sums.{sum_by-set, count_by-le-length}
use Rattle.chooser.specs.Ways.{lit, written}
use Rattle.backtrack.specs.Values.{opens, bit}

pub opens_most : (vs : List ℕ) → opens vs ≤ length vs
opens_most vs = count_by-le-length (λ x. eqb x 2) vs

module _ (vs : List ℕ) (k : ℕ) (lt : k < length vs) where
  pub opens_open : opens (set vs k 2) ≤ opens vs + 1
  opens_open = omega (arith, sum_by-set (λ x. cond (eqb x 2) 1 0) vs k 2 0 lt)

  pub opens_shut : (y : ℕ) → get_or vs k 0 ≡ 2 → (y ≡ 2 → ⊥) → opens (set vs k y) + 1 ≡ opens vs
  opens_shut y e ne =
      let s = sum_by-set (λ x. cond (eqb x 2) 1 0) vs k y 0 lt in
      omega (arith, cond-true {A = ℕ} (eqb (get_or vs k 0) 2) 1 0 (eq-eqb (get_or vs k 0) 2 e), cond-false {A = ℕ} (eqb y 2) 1 0 (ne_eqb y 2 ne))

-- a value written for a literal makes it true
pub bit_true : (vs : List ℕ) (l : ℕ) → l / 2 < length vs → lit (written (set vs (l / 2) (bit l))) l ≡ true
bit_true vs l lt =
    let p = written (set vs (l / 2) (bit l)) in
    let e : get_or (set vs (l / 2) (bit l)) (l / 2) 0 ≡ bit l = get_or-set_same vs (l / 2) (bit l) 0 lt in
    ⊎_elim
    (λ z. cond-true (eqb (l % 2) 0) (p (l / 2)) (not (p (l / 2))) (eq-eqb (l % 2) 0 z) ∙ eq-eqb (get_or (set vs (l / 2) (bit l)) (l / 2) 0) 1 (omega arith))
    (λ nz. cond-false (eqb (l % 2) 0) (p (l / 2)) (not (p (l / 2))) (ne_eqb (l % 2) 0 nz) ∙ not_from_false (p (l / 2)) (ne_eqb (get_or (set vs (l / 2) (bit l)) (l / 2) 0) 1 (λ h. omega arith)))
    (cases_eq (l % 2) 0)
