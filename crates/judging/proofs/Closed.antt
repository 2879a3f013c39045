-- Explanations are closed under parents: if a set holds what explains an answer, it holds the parents of that, rule by rule.
-- Assumes nothing.
use Rattle.std.proofs.Common.{◌≡◌, ℕ, zero, suc, Bool, true, false, eqb, ◌⊎◌, List, [], ◌∷◌, ◌++◌, refl, inl, inr}
use mathlib.Core.Option.{Option, none, some}
use Rattle.syntax.specs.Terms.{Term, var, unknown, con, call, case, both, not, equal, Terms, t[], ◌t∷◌}
use Rattle.syntax.specs.Problems.{Problem, sig_of}
use Rattle.judging.specs.Held.{Held, hold, free, Helds, h[], ◌h∷◌, branch, body_of, bound, holds, frees, ◌h++◌}
use Rattle.judging.specs.Judging.{Head, is, waits, Verdict, same, differ, wait, Judging, Asks, of_unknown, join, negation, and_true, and_waits, join_verdict, after_same, after_wait, truth, after_pair, pairs, by_constructors, after_right, after_left, compared, after_subject, and_right, headed, judges, judge, compare}
use Rattle.judging.specs.Paths.{Path, root, child, Decision, children_from, children, under}
use Rattle.judging.specs.Explained.{All, all[], ◌all∷◌}
use Rattle.judging.specs.Asked.{◌∈◌}
use Rattle.judging.specs.Reached.{Within, w_free, w_hold, Withins, w[], ◌w∷◌}
use Rattle.judging.specs.Closed.{Below, Closed, ClosedCompare, GoalClosed}
use Rattle.judging.proofs.Runs.{Always, always_out, always_give, always_then, always_map, always_step, always_at, all_left, all_right, all_join}
use Rattle.judging.proofs.Asked.{all_members, member}

module _ (P : Problem) (δ : Decision) (R : Path → Type 0) where
  abbrev B : Path → Type 0
  B = Below δ R

  abbrev HeadClosed : Held Path → Head Path → Type 0
  HeadClosed h (is c xs E) = Within B h → All R E → All B E × Withins B xs
  HeadClosed h (waits u) = Unit {0}

  abbrev VerdictClosed : Held Path → Held Path → Verdict Path → Type 0
  VerdictClosed l r (same E) = Within B l → Within B r → All R E → All B E
  VerdictClosed l r (differ E) = Within B l → Within B r → All R E → All B E
  VerdictClosed l r (wait u) = Unit {0}

  abbrev PairsClosed : Helds Path → Helds Path → Verdict Path → Type 0
  PairsClosed xs ys (same E) = Withins B xs → Withins B ys → All R E → All B E
  PairsClosed xs ys (differ E) = Withins B xs → Withins B ys → All R E → All B E
  PairsClosed xs ys (wait u) = Unit {0}

  record AsksClosed (A : Asks Path) : Type 0 where
    heads : (h : Held Path) → Always (A.head h) (HeadClosed h)
    comparings : (l r : Held Path) → Always (A.comparing l r) (VerdictClosed l r)

  in_bound : (ρ : Helds Path) (v : ℕ) → Withins B ρ → Within B (bound ρ v)
  in_bound h[] v w = w_hold w[]
  in_bound (h h∷ ρ) zero (w w∷ ws) = w
  in_bound (h h∷ ρ) (suc v) (w w∷ ws) = in_bound ρ v ws

  in_holds : (ts : Terms) (ρ : Helds Path) → Withins B ρ → Withins B (holds ts ρ)
  in_holds t[] ρ w = w[]
  in_holds (t t∷ ts) ρ w = w_hold w w∷ in_holds ts ρ w

  in_append : {ρ xs : Helds Path} → Withins B ρ → Withins B xs → Withins B (ρ h++ xs)
  in_append w[] r = r
  in_append (w w∷ ws) r = w w∷ in_append ws r

  in_children : (u : Path) (c j n : ℕ) → R u → δ u ≡ some c → Withins B (frees (children_from u c j n))
  in_children u c j zero g e = w[]
  in_children u c j (suc n) g e = w_free (g, e) w∷ in_children u c (suc j) n g e

  inner : {t t' : Term} {ρ : Helds Path} → Within B (hold t ρ) → Within B (hold t' ρ)
  inner (w_hold w) = w_hold w

  env : {t : Term} {ρ : Helds Path} → Within B (hold t ρ) → Withins B ρ
  env (w_hold w) = w

  of_unknown_closed : (u : Path) (o : Option ℕ) → δ u ≡ o → HeadClosed (free u) (of_unknown (under P δ) u o)
  of_unknown_closed u none e = tt
  of_unknown_closed u (some c) e = of
    where
      of : Within B (free u) → All R (u ∷ []) → All B (u ∷ []) × Withins B (frees (children (sig_of P) u c))
      of (w_free w) (p all∷ q) = (w all∷ all[], in_children u c 0 _ p e)

  of_root_closed : (k : ℕ) (ρ : Helds Path) (o : Option ℕ) → δ (root k) ≡ o
      → HeadClosed (hold (unknown k) ρ) (of_unknown (under P δ) (root k) o)
  of_root_closed k ρ none e = tt
  of_root_closed k ρ (some c) e = of
    where
      of : Within B (hold (unknown k) ρ) → All R (root k ∷ [])
          → All B (root k ∷ []) × Withins B (frees (children (sig_of P) (root k) c))
      of w (p all∷ q) = (tt all∷ all[], in_children (root k) c 0 _ p e)

  module _ (A : Asks Path) (S : AsksClosed A) where
    after_same_closed : (x y : Held Path) (xs ys : Helds Path) (E : List Path) → VerdictClosed x y (same E)
        → (v : Verdict Path) → PairsClosed xs ys v
        → PairsClosed (x h∷ xs) (y h∷ ys) (after_same E v)
    after_same_closed x y xs ys E p (same F) q = of
      where
        of : Withins B (x h∷ xs) → Withins B (y h∷ ys) → All R (E ++ F) → All B (E ++ F)
        of (v w∷ vs) (w w∷ ws) r = all_join (p v w (all_left E F r)) (q vs ws (all_right E F r))
    after_same_closed x y xs ys E p (differ F) q = of
      where
        of : Withins B (x h∷ xs) → Withins B (y h∷ ys) → All R F → All B F
        of (v w∷ vs) (w w∷ ws) r = q vs ws r
    after_same_closed x y xs ys E p (wait u) q = tt

    after_wait_closed : (x y : Held Path) (xs ys : Helds Path) (u : Path) → (v : Verdict Path) → PairsClosed xs ys v
        → PairsClosed (x h∷ xs) (y h∷ ys) (after_wait u v)
    after_wait_closed x y xs ys u (same F) q = tt
    after_wait_closed x y xs ys u (differ F) q = of
      where
        of : Withins B (x h∷ xs) → Withins B (y h∷ ys) → All R F → All B F
        of (v w∷ vs) (w w∷ ws) r = q vs ws r
    after_wait_closed x y xs ys u (wait v) q = tt

    after_pair_closed : (x y : Held Path) (xs ys : Helds Path) (rest : Judging (Verdict Path))
        → Always rest (PairsClosed xs ys) → (v : Verdict Path)
        → VerdictClosed x y v → Always (after_pair rest v) (PairsClosed (x h∷ xs) (y h∷ ys))
    after_pair_closed x y xs ys rest k (same E) p = always_then k (λ v q. always_give (after_same_closed x y xs ys E p v q))
    after_pair_closed x y xs ys rest k (differ E) p = always_give of
      where
        of : Withins B (x h∷ xs) → Withins B (y h∷ ys) → All R E → All B E
        of (v w∷ vs) (w w∷ ws) r = p v w r
    after_pair_closed x y xs ys rest k (wait u) p = always_then k (λ v q. always_give (after_wait_closed x y xs ys u v q))

    pairs_closed : (xs ys : Helds Path) → Always (pairs A xs ys) (PairsClosed xs ys)
    pairs_closed h[] ys = always_give (λ v w r. all[])
    pairs_closed (x h∷ xs) h[] = always_give (λ v w r. all[])
    pairs_closed (x h∷ xs) (y h∷ ys) =
        always_then (S.comparings x y) (after_pair_closed x y xs ys (pairs A xs ys) (pairs_closed xs ys))

    heads_closed : (l r : Held Path) (c d : ℕ) (xs ys : Helds Path) (E F : List Path) → HeadClosed l (is c xs E)
        → HeadClosed r (is d ys F)
        → Within B l → Within B r → All R (E ++ F) → All B (E ++ F) × Withins B xs × Withins B ys
    heads_closed l r c d xs ys E F p q v w k =
        let a = p v (all_left E F k) in
        let b = q w (all_right E F k) in
        (all_join a.0 b.0, a.1, b.1)

    joined_closed : (l r : Held Path) (c d : ℕ) (xs ys : Helds Path) (E F G : List Path) → HeadClosed l (is c xs E)
        → HeadClosed r (is d ys F)
        → (Withins B xs → Withins B ys → All R G → All B G)
        → Within B l → Within B r → All R ((E ++ F) ++ G) → All B ((E ++ F) ++ G)
    joined_closed l r c d xs ys E F G p q g v w k =
        let a = heads_closed l r c d xs ys E F p q v w (all_left (E ++ F) G k) in
        all_join a.0 (g a.1 a.2 (all_right (E ++ F) G k))

    join_verdict_closed : (l r : Held Path) (c d : ℕ) (xs ys : Helds Path) (E F : List Path) → HeadClosed l (is c xs E)
        → HeadClosed r (is d ys F)
        → (v : Verdict Path) → PairsClosed xs ys v → VerdictClosed l r (join_verdict (E ++ F) v)
    join_verdict_closed l r c d xs ys E F p q (same G) g = joined_closed l r c d xs ys E F G p q g
    join_verdict_closed l r c d xs ys E F p q (differ G) g = joined_closed l r c d xs ys E F G p q g
    join_verdict_closed l r c d xs ys E F p q (wait u) g = tt

    by_constructors_closed : (l r : Held Path) (c d : ℕ) (b : Bool) (xs ys : Helds Path) (E F : List Path)
        → HeadClosed l (is c xs E) → HeadClosed r (is d ys F)
        → Always (by_constructors A b xs ys (E ++ F)) (VerdictClosed l r)
    by_constructors_closed l r c d true xs ys E F p q =
        always_then (pairs_closed xs ys) (λ v g. always_give (join_verdict_closed l r c d xs ys E F p q v g))
    by_constructors_closed l r c d false xs ys E F p q = always_give (λ v w k. (heads_closed l r c d xs ys E F p q v w k).0)

    after_right_closed : (l r : Held Path) (c : ℕ) (xs : Helds Path) (E : List Path) → HeadClosed l (is c xs E)
        → (a : Head Path) → HeadClosed r a → Always (after_right A c xs E a) (VerdictClosed l r)
    after_right_closed l r c xs E p (is d ys F) q = by_constructors_closed l r c d (eqb c d) xs ys E F p q
    after_right_closed l r c xs E p (waits u) q = always_give tt

    after_left_closed : (l r : Held Path) (a : Head Path) → HeadClosed l a → Always (after_left A r a) (VerdictClosed l r)
    after_left_closed l r (is c xs E) p = always_then (S.heads r) (after_right_closed l r c xs E p)
    after_left_closed l r (waits u) p = always_then (S.heads r) (λ a q. always_give tt)

    compared_closed : (l r : Held Path) → Always (compared A l r) (VerdictClosed l r)
    compared_closed l r = always_then (S.heads l) (after_left_closed l r)

    after_subject_closed : (T : ℕ) (t : Term) (bs : Terms) (ρ : Helds Path) (a : Head Path) → HeadClosed (hold t ρ) a
        → Always (after_subject A bs ρ a) (HeadClosed (hold (case T t bs) ρ))
    after_subject_closed T t bs ρ (is c xs E) p = always_then (S.heads (hold (branch bs c) (ρ h++ xs))) (λ b q. always_give (joined b q))
      where
        joined : (b : Head Path) → HeadClosed (hold (branch bs c) (ρ h++ xs)) b → HeadClosed (hold (case T t bs) ρ) (join E b)
        joined (is d ys F) q =
            λ w k.
            let a = p (inner w) (all_left E F k) in
            let b = q (w_hold (in_append (env w) a.1)) (all_right E F k) in
            (all_join a.0 b.0, b.1)
        joined (waits u) q = tt
    after_subject_closed T t bs ρ (waits u) p = always_give tt

    and_true_closed : (a b : Term) (ρ : Helds Path) (c : ℕ) (xs : Helds Path) (E : List Path)
        → HeadClosed (hold a ρ) (is (suc c) xs E)
        → (r : Head Path) → HeadClosed (hold b ρ) r → HeadClosed (hold (both a b) ρ) (and_true E r)
    and_true_closed a b ρ c xs E p (is zero ys F) q = λ w k. ((q (inner w) k).0, w[])
    and_true_closed a b ρ c xs E p (is (suc d) ys F) q =
        λ w k. (all_join (p (inner w) (all_left E F k)).0 (q (inner w) (all_right E F k)).0, w[])
    and_true_closed a b ρ c xs E p (waits u) q = tt

    and_waits_closed : (a b : Term) (ρ : Helds Path) (u : Path) → (r : Head Path) → HeadClosed (hold b ρ) r
        → HeadClosed (hold (both a b) ρ) (and_waits u r)
    and_waits_closed a b ρ u (is zero ys F) q = λ w k. ((q (inner w) k).0, w[])
    and_waits_closed a b ρ u (is (suc d) ys F) q = tt
    and_waits_closed a b ρ u (waits v) q = tt

    and_right_closed : (a b : Term) (ρ : Helds Path) (right : Judging (Head Path)) → Always right (HeadClosed (hold b ρ))
        → (r : Head Path) → HeadClosed (hold a ρ) r → Always (and_right right r) (HeadClosed (hold (both a b) ρ))
    and_right_closed a b ρ right k (is zero xs E) p = always_give (λ w k. ((p (inner w) k).0, w[]))
    and_right_closed a b ρ right k (is (suc c) xs E) p = always_then k (λ r q. always_give (and_true_closed a b ρ c xs E p r q))
    and_right_closed a b ρ right k (waits u) p = always_then k (λ r q. always_give (and_waits_closed a b ρ u r q))

    negation_closed : (t : Term) (ρ : Helds Path) (r : Head Path) → HeadClosed (hold t ρ) r
        → HeadClosed (hold (not t) ρ) (negation r)
    negation_closed t ρ (is zero xs E) p = λ w k. ((p (inner w) k).0, w[])
    negation_closed t ρ (is (suc c) xs E) p = λ w k. ((p (inner w) k).0, w[])
    negation_closed t ρ (waits u) p = tt

    truth_closed : (T : ℕ) (l r : Term) (ρ : Helds Path) (v : Verdict Path) → VerdictClosed (hold l ρ) (hold r ρ) v
        → HeadClosed (hold (equal T l r) ρ) (truth v)
    truth_closed T l r ρ (same E) p = λ w k. (p (inner w) (inner w) k, w[])
    truth_closed T l r ρ (differ E) p = λ w k. (p (inner w) (inner w) k, w[])
    truth_closed T l r ρ (wait u) p = tt

    var_closed : (v : ℕ) (ρ : Helds Path) (r : Head Path) → HeadClosed (bound ρ v) r → HeadClosed (hold (var v) ρ) r
    var_closed v ρ (is c xs E) p = λ w k. p (in_bound ρ v (env w)) k
    var_closed v ρ (waits u) p = tt

    call_closed : (f : ℕ) (ts : Terms) (ρ : Helds Path) (r : Head Path) → HeadClosed (hold (body_of P f) (holds ts ρ)) r
        → HeadClosed (hold (call f ts) ρ) r
    call_closed f ts ρ (is c xs E) p = λ w k. p (w_hold (in_holds ts ρ (env w))) k
    call_closed f ts ρ (waits u) p = tt

    headed_closed : (h : Held Path) → Always (headed P (under P δ) A h) (HeadClosed h)
    headed_closed (free u) = always_give (of_unknown_closed u (δ u) refl)
    headed_closed (hold (var v) ρ) = always_map (var_closed v ρ) (S.heads (bound ρ v))
    headed_closed (hold (unknown k) ρ) = always_give (of_root_closed k ρ (δ (root k)) refl)
    headed_closed (hold (con T c ts) ρ) = always_give (λ w k. (all[], in_holds ts ρ (env w)))
    headed_closed (hold (call f ts) ρ) = always_map (call_closed f ts ρ) (S.heads (hold (body_of P f) (holds ts ρ)))
    headed_closed (hold (case T t bs) ρ) = always_then (S.heads (hold t ρ)) (after_subject_closed T t bs ρ)
    headed_closed (hold (both a b) ρ) =
        always_then (S.heads (hold a ρ)) (and_right_closed a b ρ (A.head (hold b ρ)) (S.heads (hold b ρ)))
    headed_closed (hold (not t) ρ) = always_then (S.heads (hold t ρ)) (λ r p. always_give (negation_closed t ρ r p))
    headed_closed (hold (equal T l r) ρ) =
        always_then (compared_closed (hold l ρ) (hold r ρ)) (λ v p. always_give (truth_closed T l r ρ v p))

  judges_closed : (n : ℕ) → AsksClosed (judges P (under P δ) n)
  unfolding judges
  judges_closed zero = record { heads = λ h. always_out; comparings = λ l r. always_out }
  judges_closed (suc n) =
      record {
        heads = λ h. always_step (headed_closed (judges P (under P δ) n) (judges_closed n) h);
        comparings = λ l r. always_step (compared_closed (judges P (under P δ) n) (judges_closed n) l r);
      }

closed_in : (P : Problem) (δ : Decision) (R : Path → Type 0) (h : Held Path) (s left c : ℕ) (xs : Helds Path) (E : List Path)
    → Within (Below δ R) h → judge P (under P δ) h s ≡ some (is c xs E, left) → All R E → All (Below δ R) E
closed_in P δ R h s left c xs E w e k = (always_at ((judges_closed P δ R s).heads h) e w k).0

-- from one set to a larger one
module _ (δ : Decision) (R R' : Path → Type 0) (f : (u : Path) → R u → R' u) where
  wider_below : (u : Path) → Below δ R u → Below δ R' u
  wider_below (root k) q = tt
  wider_below (child u c j) q = (f u q.0, q.1)

  mutual
    wider : {h : Held Path} → Within (Below δ R) h → Within (Below δ R') h
    wider (w_free {u = u} q) = w_free (wider_below u q)
    wider (w_hold w) = w_hold (widers w)

    widers : {ρ : Helds Path} → Withins (Below δ R) ρ → Withins (Below δ R') ρ
    widers w[] = w[]
    widers (w w∷ ws) = wider w w∷ widers ws

pub closed : Closed
closed P δ S h s left c xs E w e u d j m =
    let R : Path → Type 0 = λ v. (v ∈ E) ⊎ (v ∈ S) in
    member m (closed_in P δ R h s left c xs E (wider δ (λ v. v ∈ S) R (λ v k. inr k) w) e (all_members E (λ v k. inl k)))

closed_verdict : (P : Problem) (δ : Decision) (R : Path → Type 0) (l r : Held Path) (s left : ℕ) (E : List Path)
    → Within (Below δ R) l → Within (Below δ R) r
    → (compare P (under P δ) l r s ≡ some (same E, left)) ⊎ (compare P (under P δ) l r s ≡ some (differ E, left))
    → All R E → All (Below δ R) E
closed_verdict P δ R l r s left E v w (inl e) k = always_at ((judges_closed P δ R s).comparings l r) e v w k
closed_verdict P δ R l r s left E v w (inr e) k = always_at ((judges_closed P δ R s).comparings l r) e v w k

pub closed_compare : ClosedCompare
closed_compare P δ S l r s left E v w e u d j m =
    let R : Path → Type 0 = λ v. (v ∈ E) ⊎ (v ∈ S) in
    let more : (v : Path) → v ∈ S → R v = λ v k. inr k in
    member m
    (closed_verdict P δ R l r s left E (wider δ (λ v. v ∈ S) R more v) (wider δ (λ v. v ∈ S) R more w) e (all_members E (λ v k. inl k)))

pub goal_closed : GoalClosed
goal_closed P δ t s left c xs E e u d j m =
    member m (closed_in P δ (λ v. v ∈ E) (hold t h[]) s left c xs E (w_hold w[]) e (all_members E (λ v k. k)))
