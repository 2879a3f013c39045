-- What is judged is true, and where a judging waits the meaning gives nothing: rule by rule, from the same of what the rule
-- asks for. Assumes nothing.
use Rattle.std.proofs.Common.{◌≡◌, ℕ, zero, suc, Bool, true, false, eqb, List, ◌++◌, sym, refl, ◌∙◌, subst, subst₂, suc-ne-zero}
use mathlib.Core.Option.{Option, none, some, none-ne-some}
use Rattle.std.proofs.lemmas.Bool.{eqb-true, eqb-false}
use Rattle.syntax.specs.Terms.{Term, var, unknown, con, call, case, both, not, equal, Terms}
use Rattle.syntax.specs.Problems.{Problem}
use Rattle.judging.specs.Held.{Held, hold, free, Helds, h[], ◌h∷◌, branch, body_of, bound, holds, ◌h++◌}
use Rattle.judging.specs.Judging.{Unknowns, Head, is, waits, Verdict, same, differ, wait, Judging, Asks, of_unknown, join, negation, and_true, and_waits, join_verdict, after_same, after_wait, truth, after_pair, pairs, by_constructors, after_right, after_left, compared, after_subject, and_right, headed, judges, judge, compare}
use Rattle.judging.specs.Meaning.{Yields, y_free, y_unknown, y_var, y_con, y_call, y_case, y_not_false, y_not_true, y_left, y_right, y_both, y_same, y_differ, Same, s_same, SameAll, s_none, s_end, s_pair, Differs, d_head, d_pair, SomeDiffer, d_here, d_later}
use Rattle.judging.proofs.Runs.{Always, always_out, always_give, always_then, always_map, always_step, always_at}
use Rattle.judging.specs.Waiting.{WaitsHonest, WaitHonest}
use Rattle.judging.proofs.Determined.{one_head, same_differ, same_differ_all}
use Rattle.judging.proofs.Asked.{head_undecided, verdict_undecided}

module _ {U : Type 0} (P : Problem) (K : Unknowns U) where
  abbrev pub Nothing : Held U → Type 0
  Nothing h = (c : ℕ) (xs : Helds U) → Yields P K h c xs → ⊥

  abbrev pub HeadTrue : Held U → Head U → Type 0
  HeadTrue h (is c xs E) = Yields P K h c xs
  HeadTrue h (waits u) = Nothing h

  abbrev pub VerdictTrue : Held U → Held U → Verdict U → Type 0
  VerdictTrue l r (same E) = Same P K l r
  VerdictTrue l r (differ E) = Differs P K l r
  VerdictTrue l r (wait u) = (Same P K l r → ⊥) × (Differs P K l r → ⊥)

  abbrev PairsTrue : Helds U → Helds U → Verdict U → Type 0
  PairsTrue xs ys (same E) = SameAll P K xs ys
  PairsTrue xs ys (differ E) = SomeDiffer P K xs ys
  PairsTrue xs ys (wait u) = (SameAll P K xs ys → ⊥) × (SomeDiffer P K xs ys → ⊥)

  record AsksTrue (A : Asks U) : Type 0 where
    heads : (h : Held U) → Always (A.head h) (HeadTrue h)
    comparings : (l r : Held U) → Always (A.comparing l r) (VerdictTrue l r)

  -- what a term's yielding comes from
  from_free : {u : U} {c : ℕ} {xs : Helds U} → Yields P K (free u) c xs → K.chosen u ≡ some c
  from_free (y_free e) = e

  from_unknown : {k c : ℕ} {ρ xs : Helds U} → Yields P K (hold (unknown k) ρ) c xs → K.chosen (K.roots k) ≡ some c
  from_unknown (y_unknown e) = e

  from_var : {v c : ℕ} {ρ xs : Helds U} → Yields P K (hold (var v) ρ) c xs → Yields P K (bound ρ v) c xs
  from_var (y_var p) = p

  from_call : {f c : ℕ} {ts : Terms} {ρ xs : Helds U} → Yields P K (hold (call f ts) ρ) c xs
      → Yields P K (hold (body_of P f) (holds ts ρ)) c xs
  from_call (y_call p) = p

  from_case : {T d : ℕ} {t : Term} {bs : Terms} {ρ ys : Helds U} → Yields P K (hold (case T t bs) ρ) d ys
      → (c : ℕ) × (xs : Helds U) × Yields P K (hold t ρ) c xs × Yields P K (hold (branch bs c) (ρ h++ xs)) d ys
  from_case (y_case {c = c} {xs = xs} p q) = (c, xs, p, q)

  from_not : {t : Term} {c : ℕ} {ρ xs : Helds U} → Yields P K (hold (not t) ρ) c xs
      → (d : ℕ) × (ys : Helds U) × Yields P K (hold t ρ) d ys
  from_not (y_not_false {xs = xs} p) = (0, xs, p)
  from_not (y_not_true {c = c} {xs = xs} p) = (suc c, xs, p)

  from_both : {a b : Term} {c : ℕ} {ρ xs : Helds U} → Yields P K (hold (both a b) ρ) c xs
      → ((ys : Helds U) → Yields P K (hold a ρ) 0 ys → ⊥) → ((ys : Helds U) → Yields P K (hold b ρ) 0 ys → ⊥)
      → ((d e : ℕ) (ys zs : Helds U) → Yields P K (hold a ρ) (suc d) ys → Yields P K (hold b ρ) (suc e) zs → ⊥) → ⊥
  from_both (y_left {xs = xs} p) l r k = l xs p
  from_both (y_right {xs = xs} p) l r k = r xs p
  from_both (y_both {c = c} {d = d} {xs = xs} {ys = ys} p q) l r k = k c d xs ys p q

  from_equal : {T c : ℕ} {l r : Term} {ρ xs : Helds U} → Yields P K (hold (equal T l r) ρ) c xs
      → (Same P K (hold l ρ) (hold r ρ) → ⊥) → (Differs P K (hold l ρ) (hold r ρ) → ⊥) → ⊥
  from_equal (y_same p) s d = s p
  from_equal (y_differ p) s d = d p

  same_left : {l r : Held U} → Nothing l → Same P K l r → ⊥
  same_left n (s_same {c = c} {xs = xs} p q a) = n c xs p

  same_right : {l r : Held U} → Nothing r → Same P K l r → ⊥
  same_right n (s_same {c = c} {ys = ys} p q a) = n c ys q

  differ_left : {l r : Held U} → Nothing l → Differs P K l r → ⊥
  differ_left n (d_head {c = c} {xs = xs} p q k) = n c xs p
  differ_left n (d_pair {c = c} {xs = xs} p q k) = n c xs p

  differ_right : {l r : Held U} → Nothing r → Differs P K l r → ⊥
  differ_right n (d_head {d = d} {ys = ys} p q k) = n d ys q
  differ_right n (d_pair {c = c} {ys = ys} p q k) = n c ys q

  same_pairs : {l r : Held U} {c d : ℕ} {xs ys : Helds U} → Yields P K l c xs → Yields P K r d ys → (SameAll P K xs ys → ⊥)
      → Same P K l r → ⊥
  same_pairs p q n (s_same p' q' a) = n (subst₂ (λ xs ys. SameAll P K xs ys) (one_head P K p' p).1 (one_head P K q' q).1 a)

  differ_pairs : {l r : Held U} {c : ℕ} {xs ys : Helds U} → Yields P K l c xs → Yields P K r c ys → (SomeDiffer P K xs ys
      → ⊥) → Differs P K l r
      → ⊥
  differ_pairs p q n (d_head p' q' k) = k ((one_head P K p' p).0 ∙ sym (one_head P K q' q).0)
  differ_pairs p q n (d_pair p' q' a) = n (subst₂ (λ xs ys. SomeDiffer P K xs ys) (one_head P K p' p).1 (one_head P K q' q).1 a)

  first_same : {x y : Held U} {xs ys : Helds U} → SameAll P K (x h∷ xs) (y h∷ ys) → Same P K x y
  first_same (s_pair p q) = p

  rest_same : {x y : Held U} {xs ys : Helds U} → SameAll P K (x h∷ xs) (y h∷ ys) → SameAll P K xs ys
  rest_same (s_pair p q) = q

  some_differ : {x y : Held U} {xs ys : Helds U} → (Differs P K x y → ⊥) → (SomeDiffer P K xs ys → ⊥)
      → SomeDiffer P K (x h∷ xs) (y h∷ ys) → ⊥
  some_differ f g (d_here p) = f p
  some_differ f g (d_later p) = g p

  of_unknown_true : (u : U) (o : Option ℕ) → K.chosen u ≡ o → HeadTrue (free u) (of_unknown K u o)
  of_unknown_true u none e = λ c xs y. none-ne-some c (sym e ∙ from_free y)
  of_unknown_true u (some c) e = y_free e

  of_root_true : (k : ℕ) (ρ : Helds U) (o : Option ℕ) → K.chosen (K.roots k) ≡ o
      → HeadTrue (hold (unknown k) ρ) (of_unknown K (K.roots k) o)
  of_root_true k ρ none e = λ c xs y. none-ne-some c (sym e ∙ from_unknown y)
  of_root_true k ρ (some c) e = y_unknown e

  after_same_true : (x y : Held U) (xs ys : Helds U) (E : List U) → Same P K x y → (v : Verdict U) → PairsTrue xs ys v
      → PairsTrue (x h∷ xs) (y h∷ ys) (after_same E v)
  after_same_true x y xs ys E p (same F) q = s_pair p q
  after_same_true x y xs ys E p (differ F) q = d_later q
  after_same_true x y xs ys E p (wait u) q = (λ a. q.0 (rest_same a), some_differ (same_differ P K p) q.1)

  after_wait_true : (x y : Held U) (xs ys : Helds U) (u : U) → (Same P K x y → ⊥) × (Differs P K x y → ⊥) → (v : Verdict U)
      → PairsTrue xs ys v
      → PairsTrue (x h∷ xs) (y h∷ ys) (after_wait u v)
  after_wait_true x y xs ys u p (same F) q = (λ a. p.0 (first_same a), some_differ p.1 (same_differ_all P K q))
  after_wait_true x y xs ys u p (differ F) q = d_later q
  after_wait_true x y xs ys u p (wait v) q = (λ a. p.0 (first_same a), some_differ p.1 q.1)

  after_pair_true : (x y : Held U) (xs ys : Helds U) (rest : Judging (Verdict U)) → Always rest (PairsTrue xs ys) → (v : Verdict U)
      → VerdictTrue x y v → Always (after_pair rest v) (PairsTrue (x h∷ xs) (y h∷ ys))
  after_pair_true x y xs ys rest k (same E) p = always_then k (λ v q. always_give (after_same_true x y xs ys E p v q))
  after_pair_true x y xs ys rest k (differ E) p = always_give (d_here p)
  after_pair_true x y xs ys rest k (wait u) p = always_then k (λ v q. always_give (after_wait_true x y xs ys u p v q))

  and_true_true : (a b : Term) (ρ : Helds U) (c : ℕ) (xs : Helds U) (E : List U) → Yields P K (hold a ρ) (suc c) xs
      → (r : Head U) → HeadTrue (hold b ρ) r → HeadTrue (hold (both a b) ρ) (and_true E r)
  and_true_true a b ρ c xs E p (is zero ys F) q = y_right q
  and_true_true a b ρ c xs E p (is (suc d) ys F) q = y_both p q
  and_true_true a b ρ c xs E p (waits u) q =
      λ d ys y. from_both y (λ zs l. suc-ne-zero c (one_head P K p l).0) (λ zs r. q 0 zs r) (λ d e ys zs l r. q (suc e) zs r)

  and_waits_true : (a b : Term) (ρ : Helds U) (u : U) → Nothing (hold a ρ) → (r : Head U) → HeadTrue (hold b ρ) r
      → HeadTrue (hold (both a b) ρ) (and_waits u r)
  and_waits_true a b ρ u p (is zero ys F) q = y_right q
  and_waits_true a b ρ u p (is (suc d) ys F) q =
      λ e xs y. from_both y (λ zs l. p 0 zs l) (λ zs r. suc-ne-zero d (one_head P K q r).0) (λ d e ys zs l r. p (suc d) ys l)
  and_waits_true a b ρ u p (waits v) q =
      λ e xs y. from_both y (λ zs l. p 0 zs l) (λ zs r. q 0 zs r) (λ d e ys zs l r. p (suc d) ys l)

  and_right_true : (a b : Term) (ρ : Helds U) (right : Judging (Head U)) → Always right (HeadTrue (hold b ρ))
      → (r : Head U) → HeadTrue (hold a ρ) r → Always (and_right right r) (HeadTrue (hold (both a b) ρ))
  and_right_true a b ρ right k (is zero xs E) p = always_give (y_left p)
  and_right_true a b ρ right k (is (suc c) xs E) p = always_then k (λ r q. always_give (and_true_true a b ρ c xs E p r q))
  and_right_true a b ρ right k (waits u) p = always_then k (λ r q. always_give (and_waits_true a b ρ u p r q))

  negation_true : (t : Term) (ρ : Helds U) (r : Head U) → HeadTrue (hold t ρ) r → HeadTrue (hold (not t) ρ) (negation r)
  negation_true t ρ (is zero xs E) p = y_not_false p
  negation_true t ρ (is (suc c) xs E) p = y_not_true p
  negation_true t ρ (waits u) p = λ c xs y. let f = from_not y in p f.0 f.1 f.2

  truth_true : (T : ℕ) (l r : Term) (ρ : Helds U) (v : Verdict U) → VerdictTrue (hold l ρ) (hold r ρ) v
      → HeadTrue (hold (equal T l r) ρ) (truth v)
  truth_true T l r ρ (same E) p = y_same p
  truth_true T l r ρ (differ E) p = y_differ p
  truth_true T l r ρ (wait u) p = λ c xs y. from_equal y p.0 p.1

  var_true : (v : ℕ) (ρ : Helds U) (r : Head U) → HeadTrue (bound ρ v) r → HeadTrue (hold (var v) ρ) r
  var_true v ρ (is c xs E) p = y_var p
  var_true v ρ (waits u) p = λ c xs y. p c xs (from_var y)

  call_true : (f : ℕ) (ts : Terms) (ρ : Helds U) (r : Head U) → HeadTrue (hold (body_of P f) (holds ts ρ)) r
      → HeadTrue (hold (call f ts) ρ) r
  call_true f ts ρ (is c xs E) p = y_call p
  call_true f ts ρ (waits u) p = λ c xs y. p c xs (from_call y)

  case_true : (T : ℕ) (t : Term) (bs : Terms) (ρ : Helds U) (c : ℕ) (xs : Helds U) (E : List U) → Yields P K (hold t ρ) c xs
      → (b : Head U) → HeadTrue (hold (branch bs c) (ρ h++ xs)) b → HeadTrue (hold (case T t bs) ρ) (join E b)
  case_true T t bs ρ c xs E p (is d ys F) q = y_case p q
  case_true T t bs ρ c xs E p (waits u) q =
      λ d ys y.
      let f = from_case y in
      let e = one_head P K f.2 p in
      q d ys (subst₂ (λ c xs. Yields P K (hold (branch bs c) (ρ h++ xs)) d ys) e.0 e.1 f.3)

  module _ (A : Asks U) (S : AsksTrue A) where
    pairs_true : (xs ys : Helds U) → Always (pairs A xs ys) (PairsTrue xs ys)
    pairs_true h[] ys = always_give s_none
    pairs_true (x h∷ xs) h[] = always_give s_end
    pairs_true (x h∷ xs) (y h∷ ys) =
        always_then (S.comparings x y) (after_pair_true x y xs ys (pairs A xs ys) (pairs_true xs ys))

    join_verdict_true : (l r : Held U) (c : ℕ) (xs ys : Helds U) (E : List U) → Yields P K l c xs → Yields P K r c ys
        → (v : Verdict U) → PairsTrue xs ys v → VerdictTrue l r (join_verdict E v)
    join_verdict_true l r c xs ys E p q (same G) w = s_same p q w
    join_verdict_true l r c xs ys E p q (differ G) w = d_pair p q w
    join_verdict_true l r c xs ys E p q (wait u) w = (same_pairs p q w.0, differ_pairs p q w.1)

    by_constructors_true : (l r : Held U) (c d : ℕ) (b : Bool) → eqb c d ≡ b → (xs ys : Helds U) (E : List U)
        → Yields P K l c xs → Yields P K r d ys → Always (by_constructors A b xs ys E) (VerdictTrue l r)
    by_constructors_true l r c d true e xs ys E p q =
        let q' : Yields P K r c ys = subst (λ x. Yields P K r x ys) (sym (eqb-true c d e)) q in
        always_then (pairs_true xs ys) (λ v w. always_give (join_verdict_true l r c xs ys E p q' v w))
    by_constructors_true l r c d false e xs ys E p q = always_give (d_head p q (eqb-false c d e))

    after_right_true : (l r : Held U) (c : ℕ) (xs : Helds U) (E : List U) → Yields P K l c xs
        → (a : Head U) → HeadTrue r a → Always (after_right A c xs E a) (VerdictTrue l r)
    after_right_true l r c xs E p (is d ys F) q = by_constructors_true l r c d (eqb c d) refl xs ys (E ++ F) p q
    after_right_true l r c xs E p (waits u) q = always_give (same_right q, differ_right q)

    after_left_true : (l r : Held U) (a : Head U) → HeadTrue l a → Always (after_left A r a) (VerdictTrue l r)
    after_left_true l r (is c xs E) p = always_then (S.heads r) (after_right_true l r c xs E p)
    after_left_true l r (waits u) p = always_then (S.heads r) (λ a q. always_give (same_left p, differ_left p))

    compared_true : (l r : Held U) → Always (compared A l r) (VerdictTrue l r)
    compared_true l r = always_then (S.heads l) (after_left_true l r)

    after_subject_true : (T : ℕ) (t : Term) (bs : Terms) (ρ : Helds U) (a : Head U) → HeadTrue (hold t ρ) a
        → Always (after_subject A bs ρ a) (HeadTrue (hold (case T t bs) ρ))
    after_subject_true T t bs ρ (is c xs E) p =
        always_then (S.heads (hold (branch bs c) (ρ h++ xs))) (λ b q. always_give (case_true T t bs ρ c xs E p b q))
    after_subject_true T t bs ρ (waits u) p = always_give (λ d ys y. let f = from_case y in p f.0 f.1 f.2)

    headed_true : (h : Held U) → Always (headed P K A h) (HeadTrue h)
    headed_true (free u) = always_give (of_unknown_true u (K.chosen u) refl)
    headed_true (hold (var v) ρ) = always_map (var_true v ρ) (S.heads (bound ρ v))
    headed_true (hold (unknown k) ρ) = always_give (of_root_true k ρ (K.chosen (K.roots k)) refl)
    headed_true (hold (con T c ts) ρ) = always_give y_con
    headed_true (hold (call f ts) ρ) = always_map (call_true f ts ρ) (S.heads (hold (body_of P f) (holds ts ρ)))
    headed_true (hold (case T t bs) ρ) = always_then (S.heads (hold t ρ)) (after_subject_true T t bs ρ)
    headed_true (hold (both a b) ρ) =
        always_then (S.heads (hold a ρ)) (and_right_true a b ρ (A.head (hold b ρ)) (S.heads (hold b ρ)))
    headed_true (hold (not t) ρ) = always_then (S.heads (hold t ρ)) (λ r p. always_give (negation_true t ρ r p))
    headed_true (hold (equal T l r) ρ) =
        always_then (compared_true (hold l ρ) (hold r ρ)) (λ v p. always_give (truth_true T l r ρ v p))

  judges_true : (n : ℕ) → AsksTrue (judges P K n)
  unfolding judges
  judges_true zero = record { heads = λ h. always_out; comparings = λ l r. always_out }
  judges_true (suc n) =
      record {
        heads = λ h. always_step (headed_true (judges P K n) (judges_true n) h);
        comparings = λ l r. always_step (compared_true (judges P K n) (judges_true n) l r);
      }

pub head_true : {U : Type 0} (P : Problem) (K : Unknowns U) (h : Held U) (s left : ℕ) (a : Head U) → judge P K h s ≡ some (a, left)
    → HeadTrue P K h a
head_true P K h s left a e = always_at ((judges_true P K s).heads h) e

pub verdict_true : {U : Type 0} (P : Problem) (K : Unknowns U) (l r : Held U) (s left : ℕ) (v : Verdict U)
    → compare P K l r s ≡ some (v, left) → VerdictTrue P K l r v
verdict_true P K l r s left v e = always_at ((judges_true P K s).comparings l r) e

pub waits_honest : (U : Type 0) → WaitsHonest U
waits_honest U P K h s left u e = (head_undecided P K h s left u e, head_true P K h s left (waits u) e)

pub wait_honest : (U : Type 0) → WaitHonest U
wait_honest U P K l r s left u e =
    let q = verdict_true P K l r s left (wait u) e in
    (verdict_undecided P K l r s left u e, q.0, q.1)
