-- Judging knows its unknowns only by what it asks of them: two judgings whose unknowns are related go the same way, and give
-- related results. One traversal of the rules, over any notion of two judgings that go together. Assumes nothing.
use Rattle.std.proofs.Common.{◌≡◌, ℕ, zero, suc, Bool, true, false, eqb, List, [], ◌∷◌, ◌++◌, sym, refl, subst}
use mathlib.Core.Option.{Option, none, some}
use Rattle.syntax.specs.Terms.{Term, var, unknown, con, call, case, both, not, equal, Terms, t[], ◌t∷◌}
use Rattle.syntax.specs.Problems.{Problem}
use Rattle.judging.specs.Held.{Held, hold, free, Helds, h[], ◌h∷◌, branch, body_of, bound, holds, frees, ◌h++◌}
use Rattle.judging.specs.Judging.{Unknowns, Head, is, waits, Verdict, same, differ, wait, Judging, give, ◌then◌, Asks, of_unknown, join, negation, and_true, and_waits, join_verdict, after_same, after_wait, truth, after_pair, pairs, by_constructors, after_right, after_left, compared, after_subject, and_right, headed}
use Rattle.judging.specs.Scope.{Scoped, AllScoped}

-- A notion of two judgings that go together: `Run m n Q` says that m and n do, and that Q relates their results.
pub record Together : Type 1 where
  pub Run : {A B : Type 0} → Judging A → Judging B → (A → B → Type 0) → Type 0
  pub run_give : {A B : Type 0} {Q : A → B → Type 0} {a : A} {b : B} → Q a b → Run (give a) (give b) Q
  pub run_then : {A B A' B' : Type 0} {m : Judging A} {n : Judging B} {f : A → Judging A'} {g : B → Judging B'}
      {Q : A → B → Type 0} {S : A' → B' → Type 0} → Run m n Q → ((a : A) (b : B) → Q a b → Run (f a) (g b) S)
      → Run (m then f) (n then g) S

-- lists, pair by pair
infixr 67 ◌each∷◌ ◌l∷◌
pub data Each₂ {U V : Type 0} (R : U → V → Type 0) : List U → List V → Type 0 where
  each[] : Each₂ R [] []
  ◌each∷◌ : {u : U} {v : V} {us : List U} {vs : List V} → R u v → Each₂ R us vs → Each₂ R (u ∷ us) (v ∷ vs)

pub each_join : {U V : Type 0} {R : U → V → Type 0} {E E' : List U} {F F' : List V} → Each₂ R E F → Each₂ R E' F'
    → Each₂ R (E ++ E') (F ++ F')
each_join each[] q = q
each_join (r each∷ p) q = r each∷ each_join p q

-- Held terms that differ only in their unknowns, which are related by R; the unknowns of the problem that they name are in N.
mutual
  pub data Like {U V : Type 0} (N : ℕ → Type 0) (R : U → V → Type 0) : Held U → Held V → Type 0 where
    l_free : {u : U} {v : V} → R u v → Like N R (free u) (free v)
    l_hold : {t : Term} {ρ : Helds U} {σ : Helds V} → Scoped N t → Likes N R ρ σ → Like N R (hold t ρ) (hold t σ)

  pub data Likes {U V : Type 0} (N : ℕ → Type 0) (R : U → V → Type 0) : Helds U → Helds V → Type 0 where
    l[] : Likes N R h[] h[]
    ◌l∷◌ : {h : Held U} {k : Held V} {ρ : Helds U} {σ : Helds V} → Like N R h k → Likes N R ρ σ → Likes N R (h h∷ ρ) (k h∷ σ)

-- results whose explanations are related by D, and the unknowns waited on by W
pub data HeadLike {U V : Type 0} (N : ℕ → Type 0) (R D W : U → V → Type 0) : Head U → Head V → Type 0 where
  is_like : (c : ℕ) {xs : Helds U} {ys : Helds V} {E : List U} {F : List V} → Likes N R xs ys → Each₂ D E F
      → HeadLike N R D W (is c xs E) (is c ys F)
  waits_like : {u : U} {v : V} → W u v → HeadLike N R D W (waits u) (waits v)

pub data VerdictLike {U V : Type 0} (D W : U → V → Type 0) : Verdict U → Verdict V → Type 0 where
  same_like : {E : List U} {F : List V} → Each₂ D E F → VerdictLike D W (same E) (same F)
  differ_like : {E : List U} {F : List V} → Each₂ D E F → VerdictLike D W (differ E) (differ F)
  wait_like : {u : U} {v : V} → W u v → VerdictLike D W (wait u) (wait v)

-- what related unknowns have in common
pub record Matching {U V : Type 0} (P : Problem) (K : Unknowns U) (L : Unknowns V) (N : ℕ → Type 0) (R D W : U → V → Type 0)
    : Type 0 where
  pub bodies : (f : ℕ) → Scoped N (body_of P f)
  pub at_roots : (k : ℕ) → N k → R (K.roots k) (L.roots k)
  pub at_chosen : (u : U) (v : V) → R u v → L.chosen v ≡ K.chosen u
  pub at_kids : (u : U) (v : V) (c : ℕ) → R u v → K.chosen u ≡ some c → Each₂ R (K.kids u c) (L.kids v c)
  pub decided : (u : U) (v : V) (c : ℕ) → R u v → K.chosen u ≡ some c → D u v
  pub waiting : (u : U) (v : V) → R u v → K.chosen u ≡ none → W u v

module _ {U V : Type 0} (N : ℕ → Type 0) (R D W : U → V → Type 0) where
  abbrev HL : Head U → Head V → Type 0
  HL = HeadLike N R D W

  abbrev VL : Verdict U → Verdict V → Type 0
  VL = VerdictLike D W

  bound_like : {ρ : Helds U} {σ : Helds V} (v : ℕ) → Likes N R ρ σ → Like N R (bound ρ v) (bound σ v)
  bound_like v l[] = l_hold tt l[]
  bound_like zero (w l∷ ws) = w
  bound_like (suc v) (w l∷ ws) = bound_like v ws

  holds_like : (ts : Terms) {ρ : Helds U} {σ : Helds V} → AllScoped N ts → Likes N R ρ σ → Likes N R (holds ts ρ) (holds ts σ)
  holds_like t[] k w = l[]
  holds_like (t t∷ ts) k w = l_hold k.0 w l∷ holds_like ts k.1 w

  append_like : {ρ xs : Helds U} {σ ys : Helds V} → Likes N R ρ σ → Likes N R xs ys → Likes N R (ρ h++ xs) (σ h++ ys)
  append_like l[] q = q
  append_like (w l∷ ws) q = w l∷ append_like ws q

  frees_like : {us : List U} {vs : List V} → Each₂ R us vs → Likes N R (frees us) (frees vs)
  frees_like each[] = l[]
  frees_like (r each∷ rs) = l_free r l∷ frees_like rs

  branch_scoped : (bs : Terms) (c : ℕ) → AllScoped N bs → Scoped N (branch bs c)
  branch_scoped t[] c k = tt
  branch_scoped (b t∷ bs) zero k = k.0
  branch_scoped (b t∷ bs) (suc c) k = branch_scoped bs c k.1

  join_like : {E : List U} {F : List V} {a : Head U} {b : Head V} → Each₂ D E F → HL a b → HL (join E a) (join F b)
  join_like e (is_like c w f) = is_like c w (each_join e f)
  join_like e (waits_like w) = waits_like w

  negation_like : {a : Head U} {b : Head V} → HL a b → HL (negation a) (negation b)
  negation_like (is_like zero w f) = is_like 1 l[] f
  negation_like (is_like (suc c) w f) = is_like 0 l[] f
  negation_like (waits_like w) = waits_like w

  and_true_like : {E : List U} {F : List V} {a : Head U} {b : Head V} → Each₂ D E F → HL a b → HL (and_true E a) (and_true F b)
  and_true_like e (is_like zero w f) = is_like 0 l[] f
  and_true_like e (is_like (suc c) w f) = is_like 1 l[] (each_join e f)
  and_true_like e (waits_like w) = waits_like w

  and_waits_like : {u : U} {v : V} {a : Head U} {b : Head V} → W u v → HL a b → HL (and_waits u a) (and_waits v b)
  and_waits_like u (is_like zero w f) = is_like 0 l[] f
  and_waits_like u (is_like (suc c) w f) = waits_like u
  and_waits_like u (waits_like w) = waits_like u

  join_verdict_like : {E : List U} {F : List V} {a : Verdict U} {b : Verdict V} → Each₂ D E F → VL a b
      → VL (join_verdict E a) (join_verdict F b)
  join_verdict_like e (same_like f) = same_like (each_join e f)
  join_verdict_like e (differ_like f) = differ_like (each_join e f)
  join_verdict_like e (wait_like w) = wait_like w

  after_same_like : {E : List U} {F : List V} {a : Verdict U} {b : Verdict V} → Each₂ D E F → VL a b
      → VL (after_same E a) (after_same F b)
  after_same_like e (same_like f) = same_like (each_join e f)
  after_same_like e (differ_like f) = differ_like f
  after_same_like e (wait_like w) = wait_like w

  after_wait_like : {u : U} {v : V} {a : Verdict U} {b : Verdict V} → W u v → VL a b → VL (after_wait u a) (after_wait v b)
  after_wait_like u (same_like f) = wait_like u
  after_wait_like u (differ_like f) = differ_like f
  after_wait_like u (wait_like w) = wait_like u

  truth_like : {a : Verdict U} {b : Verdict V} → VL a b → HL (truth a) (truth b)
  truth_like (same_like e) = is_like 1 l[] e
  truth_like (differ_like e) = is_like 0 l[] e
  truth_like (wait_like w) = waits_like w

  module _ (T : Together) where
    open T use {Run, run_give, run_then}

    pub record AsksRun (A : Asks U) (B : Asks V) : Type 0 where
      pub heads : (h : Held U) (k : Held V) → Like N R h k → Run (A.head h) (B.head k) HL
      pub comparings : (l r : Held U) (k s : Held V) → Like N R l k → Like N R r s → Run (A.comparing l r) (B.comparing k s) VL

    after_pair_run : {m : Judging (Verdict U)} {n : Judging (Verdict V)} {a : Verdict U} {b : Verdict V} → Run m n VL → VL a b
        → Run (after_pair m a) (after_pair n b) VL
    after_pair_run k (same_like e) = run_then k (λ a b q. run_give (after_same_like e q))
    after_pair_run k (differ_like e) = run_give (differ_like e)
    after_pair_run k (wait_like w) = run_then k (λ a b q. run_give (after_wait_like w q))

    and_right_run : {m : Judging (Head U)} {n : Judging (Head V)} {a : Head U} {b : Head V} → Run m n HL → HL a b
        → Run (and_right m a) (and_right n b) HL
    and_right_run k (is_like zero w e) = run_give (is_like 0 l[] e)
    and_right_run k (is_like (suc c) w e) = run_then k (λ a b q. run_give (and_true_like e q))
    and_right_run k (waits_like w) = run_then k (λ a b q. run_give (and_waits_like w q))

    module _ (A : Asks U) (B : Asks V) (S : AsksRun A B) where
      pairs_run : {xs ys : Helds U} {zs ws : Helds V} → Likes N R xs zs → Likes N R ys ws → Run (pairs A xs ys) (pairs B zs ws) VL
      pairs_run l[] q = run_give (same_like each[])
      pairs_run (p l∷ ps) l[] = run_give (same_like each[])
      pairs_run (p l∷ ps) (q l∷ qs) = run_then (S.comparings _ _ _ _ p q) (λ a b v. after_pair_run (pairs_run ps qs) v)

      by_constructors_run : (b : Bool) {xs ys : Helds U} {zs ws : Helds V} {E : List U} {F : List V} → Likes N R xs zs
          → Likes N R ys ws → Each₂ D E F → Run (by_constructors A b xs ys E) (by_constructors B b zs ws F) VL
      by_constructors_run true p q e = run_then (pairs_run p q) (λ a b v. run_give (join_verdict_like e v))
      by_constructors_run false p q e = run_give (differ_like e)

      after_right_run : (c : ℕ) {xs : Helds U} {zs : Helds V} {E : List U} {F : List V} {a : Head U} {b : Head V} → Likes N R xs zs
          → Each₂ D E F → HL a b → Run (after_right A c xs E a) (after_right B c zs F b) VL
      after_right_run c p e (is_like d q f) = by_constructors_run (eqb c d) p q (each_join e f)
      after_right_run c p e (waits_like w) = run_give (wait_like w)

      after_left_run : {r : Held U} {s : Held V} {a : Head U} {b : Head V} → Like N R r s → HL a b
          → Run (after_left A r a) (after_left B s b) VL
      after_left_run p (is_like c q e) = run_then (S.heads _ _ p) (λ a b v. after_right_run c q e v)
      after_left_run p (waits_like w) = run_then (S.heads _ _ p) (λ a b v. run_give (wait_like w))

      pub compared_run : {l r : Held U} {k s : Held V} → Like N R l k → Like N R r s → Run (compared A l r) (compared B k s) VL
      compared_run p q = run_then (S.heads _ _ p) (λ a b v. after_left_run q v)

      after_subject_run : (bs : Terms) {ρ : Helds U} {σ : Helds V} {a : Head U} {b : Head V} → AllScoped N bs → Likes N R ρ σ
          → HL a b → Run (after_subject A bs ρ a) (after_subject B bs σ b) HL
      after_subject_run bs k p (is_like c q e) =
          run_then (S.heads _ _ (l_hold (branch_scoped bs c k) (append_like p q))) (λ a b v. run_give (join_like e v))
      after_subject_run bs k p (waits_like w) = run_give (waits_like w)

      module _ (P : Problem) (K : Unknowns U) (L : Unknowns V) (M : Matching P K L N R D W) where
        of_unknown_like : (u : U) (v : V) → R u v → (o : Option ℕ) → K.chosen u ≡ o → HL (of_unknown K u o) (of_unknown L v o)
        of_unknown_like u v r none e = waits_like (M.waiting u v r e)
        of_unknown_like u v r (some c) e = is_like c (frees_like (M.at_kids u v c r e)) (M.decided u v c r e each∷ each[])

        unknown_like : (u : U) (v : V) → R u v → HL (of_unknown K u (K.chosen u)) (of_unknown L v (L.chosen v))
        unknown_like u v r =
            subst (λ o. HL (of_unknown K u (K.chosen u)) (of_unknown L v o)) (sym (M.at_chosen u v r))
            (of_unknown_like u v r (K.chosen u) refl)

        hold_run : (t : Term) {ρ : Helds U} {σ : Helds V} → Scoped N t → Likes N R ρ σ
            → Run (headed P K A (hold t ρ)) (headed P L B (hold t σ)) HL
        hold_run (var v) k p = S.heads _ _ (bound_like v p)
        hold_run (unknown i) k p = run_give (unknown_like (K.roots i) (L.roots i) (M.at_roots i k))
        hold_run (con t c ts) k p = run_give (is_like c (holds_like ts k p) each[])
        hold_run (call f ts) k p = S.heads _ _ (l_hold (M.bodies f) (holds_like ts k p))
        hold_run (case t a bs) k p = run_then (S.heads _ _ (l_hold k.0 p)) (λ a b v. after_subject_run bs k.1 p v)
        hold_run (both a b) k p =
            run_then (S.heads _ _ (l_hold k.0 p)) (λ x y v. and_right_run (S.heads _ _ (l_hold k.1 p)) v)
        hold_run (not a) k p = run_then (S.heads _ _ (l_hold k p)) (λ x y v. run_give (negation_like v))
        hold_run (equal t a b) k p =
            run_then (compared_run (l_hold k.0 p) (l_hold k.1 p)) (λ x y v. run_give (truth_like v))

        pub headed_run : {h : Held U} {k : Held V} → Like N R h k → Run (headed P K A h) (headed P L B k) HL
        headed_run (l_free {u = u} {v = v} r) = run_give (unknown_like u v r)
        headed_run (l_hold {t = t} k p) = hold_run t k p
