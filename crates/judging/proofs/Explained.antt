-- Answers hold under every decision that agrees on their explanation: rule by rule, from the same of what the rule asks for.
-- Assumes nothing.
use Rattle.std.proofs.Common.{◌≡◌, ℕ, zero, suc, Bool, true, false, eqb, List, ◌++◌, sym, refl, ◌∙◌, subst}
use mathlib.Core.Option.{Option, none, some}
use Rattle.std.proofs.lemmas.Bool.{eqb-true, eqb-false}
use Rattle.syntax.specs.Terms.{Term, var, unknown, con, call, case, both, not, equal, Terms}
use Rattle.syntax.specs.Problems.{Problem}
use Rattle.judging.specs.Held.{Held, hold, free, Helds, h[], ◌h∷◌, branch, body_of, bound, holds, ◌h++◌}
use Rattle.judging.specs.Judging.{Unknowns, Head, is, waits, Verdict, same, differ, wait, Judging, give, Asks, of_unknown, join, negation, and_true, and_waits, join_verdict, after_same, after_wait, truth, after_pair, pairs, by_constructors, after_right, after_left, compared, after_subject, and_right, headed, judges}
use Rattle.judging.specs.Meaning.{Yields, y_free, y_unknown, y_var, y_con, y_call, y_case, y_not_false, y_not_true, y_left, y_right, y_both, y_same, y_differ, Same, s_same, SameAll, s_none, s_end, s_pair, Differs, d_head, d_pair, SomeDiffer, d_here, d_later}
use Rattle.judging.specs.Explained.{deciding, Agrees, HeadExplained, SameExplained, DifferExplained}
use Rattle.judging.proofs.Runs.{Always, always_out, always_give, always_then, always_map, always_step, always_at, all_left, all_right, all_first}

module _ {U : Type 0} (P : Problem) (K : Unknowns U) where
  abbrev HeadHolds : Held U → Head U → Type 0
  HeadHolds h (is c xs E) = (δ : U → Option ℕ) → Agrees K δ E → Yields P (deciding K δ) h c xs
  HeadHolds h (waits u) = Unit {0}

  abbrev VerdictHolds : Held U → Held U → Verdict U → Type 0
  VerdictHolds l r (same E) = (δ : U → Option ℕ) → Agrees K δ E → Same P (deciding K δ) l r
  VerdictHolds l r (differ E) = (δ : U → Option ℕ) → Agrees K δ E → Differs P (deciding K δ) l r
  VerdictHolds l r (wait u) = Unit {0}

  abbrev PairsHold : Helds U → Helds U → Verdict U → Type 0
  PairsHold xs ys (same E) = (δ : U → Option ℕ) → Agrees K δ E → SameAll P (deciding K δ) xs ys
  PairsHold xs ys (differ E) = (δ : U → Option ℕ) → Agrees K δ E → SomeDiffer P (deciding K δ) xs ys
  PairsHold xs ys (wait u) = Unit {0}

  record AsksHold (A : Asks U) : Type 0 where
    heads : (h : Held U) → Always (A.head h) (HeadHolds h)
    comparings : (l r : Held U) → Always (A.comparing l r) (VerdictHolds l r)

  of_unknown_explained : (u : U) (o : Option ℕ) → K.chosen u ≡ o → HeadHolds (free u) (of_unknown K u o)
  of_unknown_explained u none e = tt
  of_unknown_explained u (some c) e = λ δ ag. y_free (all_first ag ∙ e)

  of_root_explained : (k : ℕ) (ρ : Helds U) (o : Option ℕ) → K.chosen (K.roots k) ≡ o
      → HeadHolds (hold (unknown k) ρ) (of_unknown K (K.roots k) o)
  of_root_explained k ρ none e = tt
  of_root_explained k ρ (some c) e = λ δ ag. y_unknown (all_first ag ∙ e)

  module _ (A : Asks U) (S : AsksHold A) where
    after_same_explained : (x y : Held U) (xs ys : Helds U) (E : List U) → VerdictHolds x y (same E) → (v : Verdict U) → PairsHold xs ys v
        → PairsHold (x h∷ xs) (y h∷ ys) (after_same E v)
    after_same_explained x y xs ys E p (same F) q =
        λ δ ag. s_pair (p δ (all_left E F ag)) (q δ (all_right E F ag))
    after_same_explained x y xs ys E p (differ F) q = λ δ ag. d_later (q δ ag)
    after_same_explained x y xs ys E p (wait u) q = q

    after_wait_explained : (x y : Held U) (xs ys : Helds U) (u : U) → (v : Verdict U) → PairsHold xs ys v
        → PairsHold (x h∷ xs) (y h∷ ys) (after_wait u v)
    after_wait_explained x y xs ys u (same F) q = tt
    after_wait_explained x y xs ys u (differ F) q = λ δ ag. d_later (q δ ag)
    after_wait_explained x y xs ys u (wait v) q = tt

    after_pair_explained : (x y : Held U) (xs ys : Helds U) (rest : Judging (Verdict U)) → Always rest (PairsHold xs ys) → (v : Verdict U)
        → VerdictHolds x y v → Always (after_pair rest v) (PairsHold (x h∷ xs) (y h∷ ys))
    after_pair_explained x y xs ys rest k (same E) p = always_then k (λ v q. always_give (after_same_explained x y xs ys E p v q))
    after_pair_explained x y xs ys rest k (differ E) p = always_give (λ δ ag. d_here (p δ ag))
    after_pair_explained x y xs ys rest k (wait u) p = always_then k (λ v q. always_give (after_wait_explained x y xs ys u v q))

    pairs_explained : (xs ys : Helds U) → Always (pairs A xs ys) (PairsHold xs ys)
    pairs_explained h[] ys = always_give (λ δ ag. s_none)
    pairs_explained (x h∷ xs) h[] = always_give (λ δ ag. s_end)
    pairs_explained (x h∷ xs) (y h∷ ys) =
        always_then (S.comparings x y) (after_pair_explained x y xs ys (pairs A xs ys) (pairs_explained xs ys))

    join_verdict_explained : (l r : Held U) (c : ℕ) (xs ys : Helds U) (E F : List U) → HeadHolds l (is c xs E) → HeadHolds r (is c ys F)
        → (v : Verdict U) → PairsHold xs ys v → VerdictHolds l r (join_verdict (E ++ F) v)
    join_verdict_explained l r c xs ys E F p q (same G) w =
        λ δ ag.
        let ef = all_left (E ++ F) G ag in
        s_same (p δ (all_left E F ef)) (q δ (all_right E F ef)) (w δ (all_right (E ++ F) G ag))
    join_verdict_explained l r c xs ys E F p q (differ G) w =
        λ δ ag.
        let ef = all_left (E ++ F) G ag in
        d_pair (p δ (all_left E F ef)) (q δ (all_right E F ef)) (w δ (all_right (E ++ F) G ag))
    join_verdict_explained l r c xs ys E F p q (wait u) w = w

    by_constructors_explained : (l r : Held U) (c d : ℕ) (b : Bool) → eqb c d ≡ b → (xs ys : Helds U) (E F : List U)
        → HeadHolds l (is c xs E) → HeadHolds r (is d ys F)
        → Always (by_constructors A b xs ys (E ++ F)) (VerdictHolds l r)
    by_constructors_explained l r c d true e xs ys E F p q =
        let q' : HeadHolds r (is c ys F) = subst (λ x. HeadHolds r (is x ys F)) (sym (eqb-true c d e)) q in
        always_then (pairs_explained xs ys) (λ v w. always_give (join_verdict_explained l r c xs ys E F p q' v w))
    by_constructors_explained l r c d false e xs ys E F p q =
        always_give (λ δ ag. d_head (p δ (all_left E F ag)) (q δ (all_right E F ag)) (eqb-false c d e))

    after_right_explained : (l r : Held U) (c : ℕ) (xs : Helds U) (E : List U) → HeadHolds l (is c xs E)
        → (a : Head U) → HeadHolds r a → Always (after_right A c xs E a) (VerdictHolds l r)
    after_right_explained l r c xs E p (is d ys F) q = by_constructors_explained l r c d (eqb c d) refl xs ys E F p q
    after_right_explained l r c xs E p (waits u) q = always_give q

    after_left_explained : (l r : Held U) (a : Head U) → HeadHolds l a → Always (after_left A r a) (VerdictHolds l r)
    after_left_explained l r (is c xs E) p = always_then (S.heads r) (after_right_explained l r c xs E p)
    after_left_explained l r (waits u) p = always_then (S.heads r) (λ a q. always_give tt)

    compared_explained : (l r : Held U) → Always (compared A l r) (VerdictHolds l r)
    compared_explained l r = always_then (S.heads l) (after_left_explained l r)

    after_subject_explained : (T : ℕ) (t : Term) (bs : Terms) (ρ : Helds U) (a : Head U) → HeadHolds (hold t ρ) a
        → Always (after_subject A bs ρ a) (HeadHolds (hold (case T t bs) ρ))
    after_subject_explained T t bs ρ (is c xs E) p = always_then (S.heads (hold (branch bs c) (ρ h++ xs))) go
      where
        joined : (b : Head U) → HeadHolds (hold (branch bs c) (ρ h++ xs)) b → HeadHolds (hold (case T t bs) ρ) (join E b)
        joined (is d ys F) q = λ δ ag. y_case (p δ (all_left E F ag)) (q δ (all_right E F ag))
        joined (waits u) q = q

        go : (b : Head U) → HeadHolds (hold (branch bs c) (ρ h++ xs)) b → Always (give (join E b)) (HeadHolds (hold (case T t bs) ρ))
        go b q = always_give (joined b q)
    after_subject_explained T t bs ρ (waits u) p = always_give p

    and_true_explained : (a b : Term) (ρ : Helds U) (c : ℕ) (xs : Helds U) (E : List U) → HeadHolds (hold a ρ) (is (suc c) xs E)
        → (r : Head U) → HeadHolds (hold b ρ) r → HeadHolds (hold (both a b) ρ) (and_true E r)
    and_true_explained a b ρ c xs E p (is zero ys F) q = λ δ ag. y_right (q δ ag)
    and_true_explained a b ρ c xs E p (is (suc d) ys F) q = λ δ ag. y_both (p δ (all_left E F ag)) (q δ (all_right E F ag))
    and_true_explained a b ρ c xs E p (waits u) q = q

    and_waits_explained : (a b : Term) (ρ : Helds U) (u : U) → (r : Head U) → HeadHolds (hold b ρ) r
        → HeadHolds (hold (both a b) ρ) (and_waits u r)
    and_waits_explained a b ρ u (is zero ys F) q = λ δ ag. y_right (q δ ag)
    and_waits_explained a b ρ u (is (suc d) ys F) q = tt
    and_waits_explained a b ρ u (waits v) q = tt

    and_right_explained : (a b : Term) (ρ : Helds U) (right : Judging (Head U)) → Always right (HeadHolds (hold b ρ))
        → (r : Head U) → HeadHolds (hold a ρ) r → Always (and_right right r) (HeadHolds (hold (both a b) ρ))
    and_right_explained a b ρ right k (is zero xs E) p = always_give (λ δ ag. y_left (p δ ag))
    and_right_explained a b ρ right k (is (suc c) xs E) p = always_then k (λ r q. always_give (and_true_explained a b ρ c xs E p r q))
    and_right_explained a b ρ right k (waits u) p = always_then k (λ r q. always_give (and_waits_explained a b ρ u r q))

    negation_explained : (t : Term) (ρ : Helds U) (r : Head U) → HeadHolds (hold t ρ) r → HeadHolds (hold (not t) ρ) (negation r)
    negation_explained t ρ (is zero xs E) p = λ δ ag. y_not_false (p δ ag)
    negation_explained t ρ (is (suc c) xs E) p = λ δ ag. y_not_true (p δ ag)
    negation_explained t ρ (waits u) p = p

    truth_explained : (T : ℕ) (l r : Term) (ρ : Helds U) (v : Verdict U) → VerdictHolds (hold l ρ) (hold r ρ) v
        → HeadHolds (hold (equal T l r) ρ) (truth v)
    truth_explained T l r ρ (same E) p = λ δ ag. y_same (p δ ag)
    truth_explained T l r ρ (differ E) p = λ δ ag. y_differ (p δ ag)
    truth_explained T l r ρ (wait u) p = p

    var_explained : (v : ℕ) (ρ : Helds U) (r : Head U) → HeadHolds (bound ρ v) r → HeadHolds (hold (var v) ρ) r
    var_explained v ρ (is c xs E) p = λ δ ag. y_var (p δ ag)
    var_explained v ρ (waits u) p = p

    call_explained : (f : ℕ) (ts : Terms) (ρ : Helds U) (r : Head U) → HeadHolds (hold (body_of P f) (holds ts ρ)) r
        → HeadHolds (hold (call f ts) ρ) r
    call_explained f ts ρ (is c xs E) p = λ δ ag. y_call (p δ ag)
    call_explained f ts ρ (waits u) p = p

    headed_explained : (h : Held U) → Always (headed P K A h) (HeadHolds h)
    headed_explained (free u) = always_give (of_unknown_explained u (K.chosen u) refl)
    headed_explained (hold (var v) ρ) = always_map (var_explained v ρ) (S.heads (bound ρ v))
    headed_explained (hold (unknown k) ρ) = always_give (of_root_explained k ρ (K.chosen (K.roots k)) refl)
    headed_explained (hold (con T c ts) ρ) = always_give (λ δ ag. y_con)
    headed_explained (hold (call f ts) ρ) = always_map (call_explained f ts ρ) (S.heads (hold (body_of P f) (holds ts ρ)))
    headed_explained (hold (case T t bs) ρ) = always_then (S.heads (hold t ρ)) (after_subject_explained T t bs ρ)
    headed_explained (hold (both a b) ρ) =
        always_then (S.heads (hold a ρ)) (and_right_explained a b ρ (A.head (hold b ρ)) (S.heads (hold b ρ)))
    headed_explained (hold (not t) ρ) = always_then (S.heads (hold t ρ)) (λ r p. always_give (negation_explained t ρ r p))
    headed_explained (hold (equal T l r) ρ) =
        always_then (compared_explained (hold l ρ) (hold r ρ)) (λ v p. always_give (truth_explained T l r ρ v p))

  judges_explained : (n : ℕ) → AsksHold (judges P K n)
  unfolding judges
  judges_explained zero = record { heads = λ h. always_out; comparings = λ l r. always_out }
  judges_explained (suc n) =
      record {
        heads = λ h. always_step (headed_explained (judges P K n) (judges_explained n) h);
        comparings = λ l r. always_step (compared_explained (judges P K n) (judges_explained n) l r);
      }

pub head_explained : (U : Type 0) → HeadExplained U
head_explained U P K h s left c xs E e = always_at ((judges_explained P K s).heads h) e

pub same_explained : (U : Type 0) → SameExplained U
same_explained U P K l r s left E e = always_at ((judges_explained P K s).comparings l r) e

pub differ_explained : (U : Type 0) → DifferExplained U
differ_explained U P K l r s left E e = always_at ((judges_explained P K s).comparings l r) e
