-- A literal and its opposite: exactly one of them is true at each way.
use Rattle.std.proofs.Common.{◌≡◌, ℕ, ◌/◌, ◌%◌, Bool, true, false, not, eqb, sym, ap, ◌∙◌, ⊎_elim, arith}
use Rattle.std.proofs.Math.Bool.{not-not}
use Rattle.std.proofs.lemmas.Bool.{cases_eq, cond-true, cond-false, eq-eqb, ne_eqb}
use Rattle.chooser.specs.Ways.{lit}
use Rattle.rows.specs.Lits.{Turned}

lit_even : (p : ℕ → Bool) (l : ℕ) → l % 2 ≡ 0 → lit p l ≡ p (l / 2)
lit_even p l e = cond-true (eqb (l % 2) 0) (p (l / 2)) (not (p (l / 2))) (eq-eqb (l % 2) 0 e)

lit_odd : (p : ℕ → Bool) (l : ℕ) → (l % 2 ≡ 0 → ⊥) → lit p l ≡ not (p (l / 2))
lit_odd p l e = cond-false (eqb (l % 2) 0) (p (l / 2)) (not (p (l / 2))) (ne_eqb (l % 2) 0 e)

opposite : (p : ℕ → Bool) (a b : ℕ) → Turned b a → lit p a ≡ not (lit p b)
opposite p a b t =
    ⊎_elim
    (λ e. let o : b % 2 ≡ 0 → ⊥ = λ z. let same : a ≡ b = omega (arith, t.0) in t.1 same in
    lit_even p a e ∙ ap p t.0 ∙ sym (not-not (p (b / 2))) ∙ ap not (sym (lit_odd p b o)))
    (λ ne. let e : b % 2 ≡ 0 = ⊎_elim (λ z. z) (λ z. let same : a ≡ b = omega (arith, t.0) in absurd (t.1 same)) (cases_eq (b % 2) 0) in
    lit_odd p a ne ∙ ap (λ k. not (p k)) t.0 ∙ ap not (sym (lit_even p b e)))
    (cases_eq (a % 2) 0)

pub lit_off : (p : ℕ → Bool) (a b : ℕ) → Turned b a → lit p b ≡ true → lit p a ≡ false
lit_off p a b t e = opposite p a b t ∙ ap not e

pub lit_on : (p : ℕ → Bool) (a b : ℕ) → Turned b a → lit p b ≡ false → lit p a ≡ true
lit_on p a b t e = opposite p a b t ∙ ap not e

pub turned_back : (a b : ℕ) → Turned a b → Turned b a
turned_back a b t = (sym t.0, λ e. t.1 (sym e))
