-- Steps: judging to a greater depth is the same where there are no more steps than depth, so judging obeys its rules; and with
-- k steps more, k more are left, or the answer was wanting for less than k. Assumes nothing.
use Rattle.std.proofs.Common.{◌≡◌, ℕ, zero, suc, ◌+◌, ◌-◌, ◌<◌, ◌≤◌, sym, refl, ap, ◌∙◌, subst, le_trans, le_refl, add-sub_of_le, suc-add, arith}
use mathlib.Core.Option.{Option, none, some}
use Rattle.syntax.specs.Problems.{Problem}
use Rattle.judging.specs.Held.{Held}
use Rattle.judging.specs.Judging.{Unknowns, Head, Verdict, Judging, give, go_on, ◌then◌, step, headed, compared, judges, judge, compare}
use Rattle.judging.specs.Steady.{itself, JudgeUnfolds, CompareUnfolds}
use Rattle.judging.proofs.Related.{Together, HeadLike, VerdictLike, AsksRun, headed_run, compared_run}
use Rattle.judging.proofs.Lockstep.{To, InE, Awaited, matching, head_named, verdict_named}
use Rattle.judging.proofs.Alone.{own, Any, alone, like_own, head_own, verdict_own}

-- Two judgings that are the same up to d steps.
abbrev Kept : {A B : Type 0} → ℕ → (A → B → Type 0) → Option (A × ℕ) → Option (B × ℕ) → Type 0
Kept d Q none o = o ≡ none
Kept {A} {B} d Q (some r) o = (b : B) × (o ≡ some (b, r.1)) × (r.1 ≤ d) × Q r.0 b

record Deep {A B : Type 0} (d : ℕ) (m : Judging A) (n : Judging B) (Q : A → B → Type 0) : Type 0 where
  from : (s : ℕ) → s ≤ d → Kept d Q (m s) (n s)

module _ (d : ℕ) where
  deep_give : {A B : Type 0} {Q : A → B → Type 0} {a : A} {b : B} → Q a b → Deep d (give a) (give b) Q
  deep_give {b = b} q = record { from = λ s l. (b, refl, l, q) }

  deep_then : {A B A' B' : Type 0} {m : Judging A} {n : Judging B} {f : A → Judging A'} {g : B → Judging B'}
      {Q : A → B → Type 0} {S : A' → B' → Type 0} → Deep d m n Q → ((a : A) (b : B) → Q a b → Deep d (f a) (g b) S)
      → Deep d (m then f) (n then g) S
  deep_then {A} {B} {A'} {B'} {m} {n} {f} {g} {Q} {S} t k = record { from = λ s l. go (m s) (n s) (t.from s l) }
    where
      go : (o : Option (A × ℕ)) (o' : Option (B × ℕ)) → Kept d Q o o' → Kept d S (go_on f o) (go_on g o')
      go none o' e = ap (go_on g) e
      go (some r) o' x =
          subst (λ v. Kept d S (f r.0 r.1) (go_on g v)) (sym x.1) ((k r.0 x.0 x.3).from r.1 x.2)

  abbrev deeply : Together
  deeply = record { Run = Deep d; run_give = deep_give; run_then = deep_then }

kept_weaken : {A B : Type 0} (Q : A → B → Type 0) (d e : ℕ) → d ≤ e → (o : Option (A × ℕ)) (o' : Option (B × ℕ)) → Kept d Q o o'
    → Kept e Q o o'
kept_weaken Q d e l none o' x = x
kept_weaken Q d e l (some r) o' x = (x.0, x.1, le_trans x.2 l, x.3)

deep_step : {A B : Type 0} {m : Judging A} {n : Judging B} {Q : A → B → Type 0} (d : ℕ) → Deep d m n Q
    → Deep (suc d) (step m) (step n) Q
deep_step {m = m} {n = n} {Q = Q} d t = record { from = go }
  where
    go : (s : ℕ) → s ≤ suc d → Kept (suc d) Q (step m s) (step n s)
    go zero l = refl
    go (suc s) l = kept_weaken Q d (suc d) (omega arith) (m s) (n s) (t.from s (omega arith))

-- the same up to d steps, and own names: equal
deep_equal : {A : Type 0} {m n : Judging A} {Q : A → A → Type 0} (d : ℕ) → ((a b : A) → Q a b → b ≡ a) → Deep d m n Q
    → (s : ℕ) → s ≤ d → n s ≡ m s
deep_equal {A} {m} {n} {Q} d h t s l = go (m s) (n s) (t.from s l)
  where
    go : (o o' : Option (A × ℕ)) → Kept d Q o o' → o' ≡ o
    go none o' e = e
    go (some r) o' x = x.1 ∙ (λ i. some (h r.0 x.0 x.3 i, r.1))

module _ {U : Type 0} (P : Problem) (K : Unknowns U) where
  abbrev pub R : U → U → Type 0
  R = To own Any

  abbrev pub D : U → U → Type 0
  D = To own (InE P K K Any Any own (alone P K))

  abbrev pub W : U → U → Type 0
  W = To own (Awaited P K K Any Any own (alone P K))

  abbrev pub H : Head U → Head U → Type 0
  H = HeadLike Any R D W

  abbrev pub V : Verdict U → Verdict U → Type 0
  V = VerdictLike D W

  pub head_same : (a b : Head U) → H a b → b ≡ a
  head_same a b q = head_named own q ∙ head_own a

  pub verdict_same : (a b : Verdict U) → V a b → b ≡ a
  verdict_same a b q = verdict_named own q ∙ verdict_own a

  no_step : (n s : ℕ) → s ≤ 0 → (h : Held U) → (judges P K n).head h s ≡ none
  unfolding judges
  no_step zero s l h = refl
  no_step (suc n) zero l h = refl
  no_step (suc n) (suc s) l h = absurd (omega arith)

  no_step_compare : (n s : ℕ) → s ≤ 0 → (l r : Held U) → (judges P K n).comparing l r s ≡ none
  unfolding judges
  no_step_compare zero s le l r = refl
  no_step_compare (suc n) zero le l r = refl
  no_step_compare (suc n) (suc s) le l r = absurd (omega arith)

  judges_deep : (n k : ℕ) → AsksRun Any R D W (deeply n) (judges P K n) (judges P K (n + k))
  unfolding judges
  judges_deep zero k =
      record {
        heads = λ h g p. record { from = λ s l. no_step (zero + k) s l g };
        comparings = λ l r g j p q. record { from = λ s le. no_step_compare (zero + k) s le g j };
      }
  judges_deep (suc n) k =
      rw (suc-add n k)
      record {
        heads = λ h g p. deep_step n
            (headed_run Any R D W (deeply n) (judges P K n) (judges P K (n + k)) (judges_deep n k) P K K
            (matching P K K Any Any own (alone P K)) p);
        comparings = λ l r g j p q. deep_step n
            (compared_run Any R D W (deeply n) (judges P K n) (judges P K (n + k)) (judges_deep n k) p q);
      }

  -- judging itself is judging to the depth n, up to n steps
  itself_deep : (n : ℕ) → AsksRun Any R D W (deeply n) (itself P K) (judges P K n)
  itself_deep n =
      record {
        heads = λ h g p. record {
          from = λ s l. kept_weaken H s n l (judge P K h s) ((judges P K n).head g s)
              (rw (add-sub_of_le l) at (((judges_deep s (n - s)).heads h g p).from s (le_refl s)));
        };
        comparings = λ l r g j p q. record {
          from = λ s le. kept_weaken V s n le (compare P K l r s) ((judges P K n).comparing g j s)
              (rw (add-sub_of_le le) at (((judges_deep s (n - s)).comparings l r g j p q).from s (le_refl s)));
        };
      }

  unfolds : (h : Held U) (s : ℕ) → judge P K h s ≡ step (headed P K (itself P K) h) s
  unfolding judges
  unfolds h zero = refl
  unfolds h (suc s) =
      deep_equal s head_same
      (headed_run Any R D W (deeply s) (itself P K) (judges P K s) (itself_deep s) P K K
      (matching P K K Any Any own (alone P K)) (like_own h))
      s (le_refl s)

  unfolds_compare : (l r : Held U) (s : ℕ) → compare P K l r s ≡ step (compared (itself P K) l r) s
  unfolding judges
  unfolds_compare l r zero = refl
  unfolds_compare l r (suc s) =
      deep_equal s verdict_same
      (compared_run Any R D W (deeply s) (itself P K) (judges P K s) (itself_deep s) (like_own l) (like_own r)) s (le_refl s)

pub judge_unfolds : (U : Type 0) → JudgeUnfolds U
judge_unfolds U = unfolds

pub compare_unfolds : (U : Type 0) → CompareUnfolds U
compare_unfolds U = unfolds_compare

-- The same for code that counts its steps down from s to s - 1.
pub judge_out : {U : Type 0} (P : Problem) (K : Unknowns U) (h : Held U) → judge P K h 0 ≡ none
judge_out P K h = unfolds P K h 0

pub judge_rule : {U : Type 0} (P : Problem) (K : Unknowns U) (h : Held U) (s : ℕ) → 0 < s
    → judge P K h s ≡ headed P K (itself P K) h (s - 1)
judge_rule P K h s l =
    let e : s ≡ suc (s - 1) = omega (arith, l) in
    ap (judge P K h) e ∙ unfolds P K h (suc (s - 1))

pub compare_out : {U : Type 0} (P : Problem) (K : Unknowns U) (l r : Held U) → compare P K l r 0 ≡ none
compare_out P K l r = unfolds_compare P K l r 0

pub compare_rule : {U : Type 0} (P : Problem) (K : Unknowns U) (l r : Held U) (s : ℕ) → 0 < s
    → compare P K l r s ≡ compared (itself P K) l r (s - 1)
compare_rule P K l r s le =
    let e : s ≡ suc (s - 1) = omega (arith, le) in
    ap (compare P K l r) e ∙ unfolds_compare P K l r (suc (s - 1))
