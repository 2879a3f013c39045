-- One head at most, never both the same and different: two derivations side by side. And each derivation stands under a
-- decision that decides more. Assumes nothing.
use Rattle.std.proofs.Common.{◌≡◌, ℕ, sym, refl, ap, ◌∙◌, subst₂, suc-ne-zero}
use mathlib.Core.Option.{Option, some, some-injective}
use Rattle.syntax.specs.Problems.{Problem}
use Rattle.judging.specs.Held.{Held, hold, Helds, branch, frees, ◌h++◌}
use Rattle.judging.specs.Judging.{Unknowns}
use Rattle.judging.specs.Meaning.{Yields, y_free, y_unknown, y_var, y_con, y_call, y_case, y_not_false, y_not_true, y_left, y_right, y_both, y_same, y_differ, Same, s_same, SameAll, s_none, s_end, s_pair, Differs, d_head, d_pair, SomeDiffer, d_here, d_later}
use Rattle.judging.specs.Explained.{deciding}
use Rattle.judging.specs.Determined.{OneHead, NotBoth, MoreDecided}

module _ {U : Type 0} (P : Problem) (K : Unknowns U) where
  decided : (u : U) {c d : ℕ} → K.chosen u ≡ some c → K.chosen u ≡ some d
      → (c ≡ d) × (frees (K.kids u c) ≡ frees (K.kids u d))
  decided u {c} {d} e f =
      let same : c ≡ d = some-injective c d (sym e ∙ f) in
      (same, ap (λ x. frees (K.kids u x)) same)

  mutual
    pub one_head : {h : Held U} {c d : ℕ} {xs ys : Helds U} → Yields P K h c xs → Yields P K h d ys → (c ≡ d) × (xs ≡ ys)
    one_head (y_free {u = u} e) (y_free f) = decided u e f
    one_head (y_unknown {k = k} e) (y_unknown f) = decided (K.roots k) e f
    one_head (y_var p) (y_var q) = one_head p q
    one_head y_con y_con = (refl, refl)
    one_head (y_call p) (y_call q) = one_head p q
    one_head (y_case {bs = bs} {ρ = ρ} p p') (y_case {d = d} {ys = ys} q q') =
        let e = one_head p q in
        one_head p' (subst₂ (λ c xs. Yields P K (hold (branch bs c) (ρ h++ xs)) d ys) (sym e.0) (sym e.1) q')
    one_head (y_not_false p) (y_not_false q) = (refl, refl)
    one_head (y_not_false p) (y_not_true q) = absurd (suc-ne-zero _ (sym (one_head p q).0))
    one_head (y_not_true p) (y_not_false q) = absurd (suc-ne-zero _ (one_head p q).0)
    one_head (y_not_true p) (y_not_true q) = (refl, refl)
    one_head (y_left p) (y_left q) = (refl, refl)
    one_head (y_left p) (y_right q) = (refl, refl)
    one_head (y_left p) (y_both q q') = absurd (suc-ne-zero _ (sym (one_head p q).0))
    one_head (y_right p) (y_left q) = (refl, refl)
    one_head (y_right p) (y_right q) = (refl, refl)
    one_head (y_right p) (y_both q q') = absurd (suc-ne-zero _ (sym (one_head p q').0))
    one_head (y_both p p') (y_left q) = absurd (suc-ne-zero _ (one_head p q).0)
    one_head (y_both p p') (y_right q) = absurd (suc-ne-zero _ (one_head p' q).0)
    one_head (y_both p p') (y_both q q') = (refl, refl)
    one_head (y_same p) (y_same q) = (refl, refl)
    one_head (y_same p) (y_differ q) = absurd (same_differ p q)
    one_head (y_differ p) (y_same q) = absurd (differ_same p q)
    one_head (y_differ p) (y_differ q) = (refl, refl)

    pub same_differ : {l r : Held U} → Same P K l r → Differs P K l r → ⊥
    same_differ (s_same p p' a) (d_head q q' n) = n (sym (one_head p q).0 ∙ (one_head p' q').0)
    same_differ (s_same p p' a) (d_pair q q' b) =
        same_differ_all a (subst₂ (λ xs ys. SomeDiffer P K xs ys) (sym (one_head p q).1) (sym (one_head p' q').1) b)

    pub same_differ_all : {xs ys : Helds U} → SameAll P K xs ys → SomeDiffer P K xs ys → ⊥
    same_differ_all s_none b = elim b [ ]
    same_differ_all s_end b = elim b [ ]
    same_differ_all (s_pair a as') (d_here b) = same_differ a b
    same_differ_all (s_pair a as') (d_later b) = same_differ_all as' b

    pub differ_same : {l r : Held U} → Differs P K l r → Same P K l r → ⊥
    differ_same (d_head p p' n) (s_same q q' b) = n ((one_head p q).0 ∙ sym (one_head p' q').0)
    differ_same (d_pair p p' a) (s_same q q' b) =
        differ_same_some a (subst₂ (λ xs ys. SameAll P K xs ys) (sym (one_head p q).1) (sym (one_head p' q').1) b)

    pub differ_same_some : {xs ys : Helds U} → SomeDiffer P K xs ys → SameAll P K xs ys → ⊥
    differ_same_some (d_here a) (s_pair b bs) = differ_same a b
    differ_same_some (d_later a) (s_pair b bs) = differ_same_some a bs

-- to decide more takes no meaning back
module _ {U : Type 0} (P : Problem) (K : Unknowns U) (δ : U → Option ℕ)
    (f : (u : U) (c : ℕ) → K.chosen u ≡ some c → δ u ≡ some c) where
  mutual
    more : {h : Held U} {c : ℕ} {xs : Helds U} → Yields P K h c xs → Yields P (deciding K δ) h c xs
    more (y_free {u = u} {c = c} e) = y_free (f u c e)
    more (y_unknown {k = k} {c = c} e) = y_unknown (f (K.roots k) c e)
    more (y_var p) = y_var (more p)
    more y_con = y_con
    more (y_call p) = y_call (more p)
    more (y_case p q) = y_case (more p) (more q)
    more (y_not_false p) = y_not_false (more p)
    more (y_not_true p) = y_not_true (more p)
    more (y_left p) = y_left (more p)
    more (y_right p) = y_right (more p)
    more (y_both p q) = y_both (more p) (more q)
    more (y_same p) = y_same (more_same p)
    more (y_differ p) = y_differ (more_differ p)

    more_same : {l r : Held U} → Same P K l r → Same P (deciding K δ) l r
    more_same (s_same p q a) = s_same (more p) (more q) (more_all a)

    more_all : {xs ys : Helds U} → SameAll P K xs ys → SameAll P (deciding K δ) xs ys
    more_all s_none = s_none
    more_all s_end = s_end
    more_all (s_pair p q) = s_pair (more_same p) (more_all q)

    more_differ : {l r : Held U} → Differs P K l r → Differs P (deciding K δ) l r
    more_differ (d_head p q n) = d_head (more p) (more q) n
    more_differ (d_pair p q a) = d_pair (more p) (more q) (more_some a)

    more_some : {xs ys : Helds U} → SomeDiffer P K xs ys → SomeDiffer P (deciding K δ) xs ys
    more_some (d_here p) = d_here (more_differ p)
    more_some (d_later p) = d_later (more_some p)

pub one_head_only : (U : Type 0) → OneHead U
one_head_only U P K h c d xs ys p q = one_head P K p q

pub not_both : (U : Type 0) → NotBoth U
not_both U P K l r p q = same_differ P K p q

pub more_decided : (U : Type 0) → MoreDecided U
more_decided U P K δ f h c xs p = more P K δ f p
