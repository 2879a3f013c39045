-- How explanations add up, by which unknowns are members.
use Rattle.std.proofs.Common.{◌≡◌, ℕ, false, ◌||◌, eqb, List, [], ◌∷◌, ◌++◌, sym, refl, ap, ◌∙◌}
use mathlib.Core.Bool.{or-false, or_assoc, or_comm}
use Rattle.held.specs.Explanations.{contains, member, Adds}
use Rattle.judge.specs.Means.{Explains}

member_++ : (E F : List ℕ) (u : ℕ) → member (E ++ F) u ≡ (member E u || member F u)
member_++ [] F u = refl
member_++ (v ∷ E) F u = ap (λ b. eqb v u || b) (member_++ E F u) ∙ sym (or_assoc (eqb v u) (member E u) (member F u))

pub adds_none : {a : List ℕ} → Adds a a []
adds_none {a} = record { has = λ u h. sym (or-false (contains a u)) }

pub adds_append : {a b c E F : List ℕ} → Adds a b E → Adds b c F → Adds a c (E ++ F)
adds_append {a} {b} {c} {E} {F} p q = record {
  has = λ u h.
      q.has u h ∙ ap (λ x. x || member F u) (p.has u h) ∙ or_assoc (contains a u) (member E u) (member F u)
      ∙ ap (λ x. contains a u || x) (sym (member_++ E F u));
}

-- the union of b and a set of E, where b came of a by F
pub adds_join : {a b E F : List ℕ} (c w : List ℕ) → Explains w E → Adds a b F → ((u : ℕ) → contains c u ≡ (contains b u || contains w u))
    → Adds a c (E ++ F)
adds_join {a} {b} {E} {F} c w s q union = record {
  has = λ u h.
      union u ∙ ap (λ x. x || contains w u) (q.has u h) ∙ ap (λ x. contains a u || member F u || x) (s.has u h)
      ∙ or_assoc (contains a u) (member F u) (member E u) ∙ ap (λ x. contains a u || x) (or_comm (member F u) (member E u) ∙ sym (member_++ E F u));
}

pub adds_only : {a E : List ℕ} (c w : List ℕ) → Explains w E → ((u : ℕ) → contains c u ≡ (contains a u || contains w u)) → Adds a c E
adds_only {a} c w s union = record { has = λ u h. union u ∙ ap (λ x. contains a u || x) (s.has u h) }

pub explains : {E : List ℕ} (z w : List ℕ) → ((u : ℕ) → contains z u ≡ false) → Adds z w E → Explains w E
explains {E} z w none q = record { has = λ u h. q.has u h ∙ ap (λ x. x || member E u) (none u) }
