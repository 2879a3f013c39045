-- Judgings by unknowns of two kinds, one of which names the other: step for step they are the same, as far as the names are
-- right. Assumes nothing.
use Rattle.std.proofs.Common.{◌≡◌, ℕ, zero, suc, List, [], ◌∷◌, map, sym, refl, ap, ◌∙◌, subst}
use mathlib.Core.Option.{Option, none, some}
use Rattle.syntax.specs.Problems.{Problem}
use Rattle.judging.specs.Held.{Held, hold, Helds, ◌h∷◌, body_of}
use Rattle.judging.specs.Judging.{Unknowns, Head, is, Verdict, same, differ, Judging, give, go_on, ◌then◌, step, judges, judge, compare}
use Rattle.judging.specs.Explained.{All, all[], ◌all∷◌}
use Rattle.judging.specs.Scope.{Scoped}
use Rattle.judging.specs.Asked.{Decided}
use Rattle.judging.specs.Names.{named, nameds, named_head, named_verdict, result}
use Rattle.judging.proofs.Related.{Together, Each₂, each[], ◌each∷◌, Like, l_free, l_hold, Likes, l[], ◌l∷◌, HeadLike, is_like, waits_like, VerdictLike, same_like, differ_like, wait_like, Matching, AsksRun, headed_run, compared_run}

-- both are OUT, or both have a result, with the same steps left
abbrev pub Locked : {A B : Type 0} → (A → B → Type 0) → Option (A × ℕ) → Option (B × ℕ) → Type 0
Locked Q none o = o ≡ none
Locked {A} {B} Q (some r) o = (b : B) × (o ≡ some (b, r.1)) × Q r.0 b

pub record Lock {A B : Type 0} (m : Judging A) (n : Judging B) (Q : A → B → Type 0) : Type 0 where
  pub from : (s : ℕ) → Locked Q (m s) (n s)

lock_give : {A B : Type 0} {Q : A → B → Type 0} {a : A} {b : B} → Q a b → Lock (give a) (give b) Q
lock_give {b = b} q = record { from = λ s. (b, refl, q) }

lock_then : {A B A' B' : Type 0} {m : Judging A} {n : Judging B} {f : A → Judging A'} {g : B → Judging B'}
    {Q : A → B → Type 0} {S : A' → B' → Type 0} → Lock m n Q → ((a : A) (b : B) → Q a b → Lock (f a) (g b) S)
    → Lock (m then f) (n then g) S
lock_then {A} {B} {A'} {B'} {m} {n} {f} {g} {Q} {S} t k = record { from = λ s. go (m s) (n s) (t.from s) }
  where
    go : (o : Option (A × ℕ)) (o' : Option (B × ℕ)) → Locked Q o o' → Locked S (go_on f o) (go_on g o')
    go none o' e = ap (go_on g) e
    go (some r) o' x =
        subst (λ v. Locked S (f r.0 r.1) (go_on g v)) (sym x.1) ((k r.0 x.0 x.2).from r.1)

lock_step : {A B : Type 0} {m : Judging A} {n : Judging B} {Q : A → B → Type 0} → Lock m n Q → Lock (step m) (step n) Q
lock_step {m = m} {n = n} {Q = Q} t = record { from = go }
  where
    go : (s : ℕ) → Locked Q (step m s) (step n s)
    go zero = refl
    go (suc s) = t.from s

abbrev lockstep : Together
lockstep = record { Run = Lock; run_give = lock_give; run_then = lock_then }

-- v is the name of u, for which G holds
pub data To {U V : Type 0} (name : U → V) (G : U → Type 0) (u : U) : V → Type 0 where
  to : G u → To name G u (name u)

-- The names of K's unknowns in L are right, where G holds.
pub record Naming {U V : Type 0} (P : Problem) (K : Unknowns U) (L : Unknowns V) (N : ℕ → Type 0) (G : U → Type 0)
    (name : U → V) : Type 0 where
  pub bodies : (f : ℕ) → Scoped N (body_of P f)
  pub at_roots : (k : ℕ) → N k → G (K.roots k) × (name (K.roots k) ≡ L.roots k)
  pub at_chosen : (u : U) → G u → L.chosen (name u) ≡ K.chosen u
  pub at_kids : (u : U) (c : ℕ) → G u → K.chosen u ≡ some c → All G (K.kids u c) × (map name (K.kids u c) ≡ L.kids (name u) c)

module _ {U V : Type 0} (name : U → V) where
  each_to : (G : U → Type 0) (us : List U) → All G us → Each₂ (To name G) us (map name us)
  each_to G [] all[] = each[]
  each_to G (u ∷ us) (g all∷ gs) = to g each∷ each_to G us gs

  pub all_to : {G : U → Type 0} {us : List U} {vs : List V} → Each₂ (To name G) us vs → All G us × (vs ≡ map name us)
  all_to each[] = (all[], refl)
  all_to (◌each∷◌ {u = u} (to g) q) = let r = all_to q in (g all∷ r.0, ap (◌∷◌ (name u)) r.1)

  module _ {N : ℕ → Type 0} {G : U → Type 0} where
    mutual
      pub like_named : {h : Held U} {k : Held V} → Like N (To name G) h k → k ≡ named name h
      like_named (l_free (to g)) = refl
      like_named (l_hold {t = t} q p) = ap (hold t) (likes_named p)

      pub likes_named : {ρ : Helds U} {σ : Helds V} → Likes N (To name G) ρ σ → σ ≡ nameds name ρ
      likes_named l[] = refl
      likes_named (p l∷ q) = λ i. like_named p i h∷ likes_named q i

  pub head_named : {N : ℕ → Type 0} {G D W : U → Type 0} {a : Head U} {b : Head V} → HeadLike N (To name G) (To name D) (To name W) a b
      → b ≡ named_head name a
  head_named (is_like c p e) = λ i. is c (likes_named p i) ((all_to e).1 i)
  head_named (waits_like (to w)) = refl

  pub verdict_named : {D W : U → Type 0} {a : Verdict U} {b : Verdict V} → VerdictLike (To name D) (To name W) a b
      → b ≡ named_verdict name a
  verdict_named (same_like e) = ap same (all_to e).1
  verdict_named (differ_like e) = ap differ (all_to e).1
  verdict_named (wait_like (to w)) = refl

-- where the first judging has a result, the second has it under its names; where the first is OUT, so is the second
lock_result : {A B : Type 0} {m : Judging A} {n : Judging B} {Q : A → B → Type 0} (f : A → B) → ((a : A) (b : B) → Q a b → b ≡ f a)
    → Lock m n Q → (s : ℕ) → n s ≡ result f (m s)
lock_result {A} {B} {m} {n} {Q} f h t s = go (m s) (n s) (t.from s)
  where
    go : (o : Option (A × ℕ)) (o' : Option (B × ℕ)) → Locked Q o o' → o' ≡ result f o
    go none o' e = e
    go (some r) o' x = x.1 ∙ (λ i. some (h r.0 x.0 x.2 i, r.1))

pub lock_at : {A B : Type 0} {m : Judging A} {n : Judging B} {Q : A → B → Type 0} → Lock m n Q → {s left : ℕ} {a : A}
    → m s ≡ some (a, left) → (b : B) × (n s ≡ some (b, left)) × Q a b
lock_at {n = n} {Q = Q} t {s = s} e = subst (λ o. Locked Q o (n s)) e (t.from s)

module _ {U V : Type 0} (P : Problem) (K : Unknowns U) (L : Unknowns V) (N : ℕ → Type 0) (G : U → Type 0) (name : U → V)
    (X : Naming P K L N G name) where
  abbrev pub InE : U → Type 0
  InE u = G u × Decided K u

  abbrev pub Awaited : U → Type 0
  Awaited u = G u × (K.chosen u ≡ none)

  abbrev pub HL : Head U → Head V → Type 0
  HL = HeadLike N (To name G) (To name InE) (To name Awaited)

  abbrev pub VL : Verdict U → Verdict V → Type 0
  VL = VerdictLike (To name InE) (To name Awaited)

  pub matching : Matching P K L N (To name G) (To name InE) (To name Awaited)
  matching =
      record {
        bodies = X.bodies;
        at_roots = λ k n. let r = X.at_roots k n in subst (λ v. To name G (K.roots k) v) r.1 (to r.0);
        at_chosen = chosen;
        at_kids = kids;
        decided = decided_to;
        waiting = waiting_to;
      }
    where
      chosen : (u : U) (v : V) → To name G u v → L.chosen v ≡ K.chosen u
      chosen u v (to g) = X.at_chosen u g

      kids : (u : U) (v : V) (c : ℕ) → To name G u v → K.chosen u ≡ some c → Each₂ (To name G) (K.kids u c) (L.kids v c)
      kids u v c (to g) e =
          let r = X.at_kids u c g e in
          subst (λ vs. Each₂ (To name G) (K.kids u c) vs) r.1 (each_to name G (K.kids u c) r.0)

      decided_to : (u : U) (v : V) (c : ℕ) → To name G u v → K.chosen u ≡ some c → To name InE u v
      decided_to u v c (to g) e = to (g, (c, e))

      waiting_to : (u : U) (v : V) → To name G u v → K.chosen u ≡ none → To name Awaited u v
      waiting_to u v (to g) e = to (g, e)

  judges_lock : (n : ℕ) → AsksRun N (To name G) (To name InE) (To name Awaited) lockstep (judges P K n) (judges P L n)
  unfolding judges
  judges_lock zero =
      record { heads = λ h k p. record { from = λ s. refl }; comparings = λ l r k s p q. record { from = λ s. refl } }
  judges_lock (suc n) =
      record {
        heads = λ h k p. lock_step
            (headed_run N (To name G) (To name InE) (To name Awaited) lockstep (judges P K n) (judges P L n) (judges_lock n) P K L
            matching p);
        comparings = λ l r k s p q. lock_step
            (compared_run N (To name G) (To name InE) (To name Awaited) lockstep (judges P K n) (judges P L n) (judges_lock n) p q);
      }

  pub judge_named : (h : Held U) (k : Held V) → Like N (To name G) h k → (s : ℕ) → judge P L k s ≡ result (named_head name) (judge P K h s)
  judge_named h k p s = lock_result (named_head name) (λ a b. head_named name) ((judges_lock s).heads h k p) s

  pub compare_named : (l r : Held U) (k j : Held V) → Like N (To name G) l k → Like N (To name G) r j → (s : ℕ)
      → compare P L k j s ≡ result (named_verdict name) (compare P K l r s)
  compare_named l r k j p q s = lock_result (named_verdict name) (λ a b. verdict_named name) ((judges_lock s).comparings l r k j p q) s

  pub head_facts : (h : Held U) (k : Held V) → Like N (To name G) h k → (s left : ℕ) (a : Head U) → judge P K h s ≡ some (a, left)
      → (b : Head V) × (judge P L k s ≡ some (b, left)) × HL a b
  head_facts h k p s left a e = lock_at ((judges_lock s).heads h k p) e

  pub verdict_facts : (l r : Held U) (k j : Held V) → Like N (To name G) l k → Like N (To name G) r j → (s left : ℕ) (a : Verdict U)
      → compare P K l r s ≡ some (a, left) → (b : Verdict V) × (compare P L k j s ≡ some (b, left)) × VL a b
  verdict_facts l r k j p q s left a e = lock_at ((judges_lock s).comparings l r k j p q) e
