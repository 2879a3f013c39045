-- Steps spent: with k steps more a judging leaves k more, and where it was OUT it leaves less than k. So each answer takes a
-- number of steps of its own. Assumes nothing.
use Rattle.std.proofs.Common.{◌≡◌, ℕ, zero, suc, ◌+◌, ◌-◌, ◌<◌, ◌≤◌, sym, refl, ap, ◌∙◌, subst, le_refl, add-sub_of_le, suc-add, zero-add, sub-add_cancel, arith}
use mathlib.Core.Option.{Option, none, some, none-ne-some, some-injective}
use Rattle.syntax.specs.Problems.{Problem}
use Rattle.judging.specs.Held.{Held}
use Rattle.judging.specs.Judging.{Unknowns, Head, Verdict, Judging, give, go_on, ◌then◌, step, judges, judge, compare}
use Rattle.judging.specs.Steady.{Takes, JudgingTakes, ComparingTakes, MoreSteps}
use Rattle.judging.proofs.Related.{Together, AsksRun, headed_run, compared_run}
use Rattle.judging.proofs.Lockstep.{matching}
use Rattle.judging.proofs.Alone.{own, Any, alone, like_own}
use Rattle.judging.proofs.Steady.{R, D, W, H, V, head_same, verdict_same}

-- no more steps are left than were given; the result is related to some other
abbrev Falls : {A B : Type 0} → (A → B → Type 0) → ℕ → Option (B × ℕ) → Type 0
Falls Q s none = Unit {0}
Falls {A} {B} Q s (some r) = (r.1 ≤ s) × ((a : A) × Q a r.0)

falls_weaken : {A B : Type 0} (Q : A → B → Type 0) (s t : ℕ) → s ≤ t → (o : Option (B × ℕ)) → Falls Q s o → Falls Q t o
falls_weaken Q s t l none x = tt
falls_weaken Q s t l (some r) x = let k = x.0 in (omega (arith, l, k), x.1)

record Fall {A B : Type 0} (m : Judging A) (n : Judging B) (Q : A → B → Type 0) : Type 0 where
  falls : (s : ℕ) → Falls Q s (n s)

fall_give : {A B : Type 0} {Q : A → B → Type 0} {a : A} {b : B} → Q a b → Fall (give a) (give b) Q
fall_give {a = a} q = record { falls = λ s. (le_refl s, (a, q)) }

fall_then : {A B A' B' : Type 0} {m : Judging A} {n : Judging B} {f : A → Judging A'} {g : B → Judging B'}
    {Q : A → B → Type 0} {S : A' → B' → Type 0} → Fall m n Q → ((a : A) (b : B) → Q a b → Fall (f a) (g b) S)
    → Fall (m then f) (n then g) S
fall_then {A} {B} {A'} {B'} {m} {n} {f} {g} {Q} {S} t k = record { falls = λ s. go s (n s) (t.falls s) }
  where
    go : (s : ℕ) (o : Option (B × ℕ)) → Falls Q s o → Falls S s (go_on g o)
    go s none x = tt
    go s (some r) x = falls_weaken S r.1 s x.0 (g r.0 r.1) ((k x.1.0 r.0 x.1.1).falls r.1)

abbrev falling : Together
falling = record { Run = Fall; run_give = fall_give; run_then = fall_then }

fall_step : {A B : Type 0} {m : Judging A} {n : Judging B} {Q : A → B → Type 0} → Fall m n Q → Fall (step m) (step n) Q
fall_step {n = n} {Q = Q} t = record { falls = go }
  where
    go : (s : ℕ) → Falls Q s (step n s)
    go zero = tt
    go (suc s) = falls_weaken Q s (suc s) (omega arith) (n s) (t.falls s)

-- with k steps more, k more are left; where the first is OUT, less than k are left
abbrev Less : {B : Type 0} → ℕ → Option (B × ℕ) → Type 0
Less k none = Unit {0}
Less k (some r) = r.1 < k

abbrev Counted : {A B : Type 0} → (d k : ℕ) → (A → B → Type 0) → Option (A × ℕ) → Option (B × ℕ) → Type 0
Counted d k Q none o = Less k o
Counted {A} {B} d k Q (some r) o = (b : B) × (o ≡ some (b, r.1 + k)) × (r.1 ≤ d) × Q r.0 b

less_from : {A B : Type 0} (Q : A → B → Type 0) (k s : ℕ) → s < k → (o : Option (B × ℕ)) → Falls Q s o → Less k o
less_from Q k s l none x = tt
less_from Q k s l (some r) x = let y = x.0 in omega (arith, l, y)

-- a step falls by one at least
step_less : {A B : Type 0} {m : Judging A} {n : Judging B} {Q : A → B → Type 0} (k t : ℕ) → t ≤ k → Fall m n Q → Less k (step n t)
step_less k zero l f = tt
step_less {n = n} {Q = Q} k (suc t) l f = less_from Q k t (omega arith) (n t) (f.falls t)

-- the first with up to d steps
record Count {A B : Type 0} (d k : ℕ) (m : Judging A) (n : Judging B) (Q : A → B → Type 0) : Type 0 where
  fall : Fall m n Q
  from : (s : ℕ) → s ≤ d → Counted d k Q (m s) (n (s + k))

module _ (d k : ℕ) where
  count_give : {A B : Type 0} {Q : A → B → Type 0} {a : A} {b : B} → Q a b → Count d k (give a) (give b) Q
  count_give {b = b} q = record { fall = fall_give q; from = λ s l. (b, refl, l, q) }

  count_then : {A B A' B' : Type 0} {m : Judging A} {n : Judging B} {f : A → Judging A'} {g : B → Judging B'}
      {Q : A → B → Type 0} {S : A' → B' → Type 0} → Count d k m n Q → ((a : A) (b : B) → Q a b → Count d k (f a) (g b) S)
      → Count d k (m then f) (n then g) S
  count_then {A} {B} {A'} {B'} {m} {n} {f} {g} {Q} {S} t h =
      record {
        fall = fall_then t.fall (λ a b q. (h a b q).fall);
        from = λ s l. go (s + k) (m s) (n (s + k)) (t.from s l) (t.fall.falls (s + k));
      }
    where
      go : (s : ℕ) (o : Option (A × ℕ)) (o' : Option (B × ℕ)) → Counted d k Q o o' → Falls Q s o'
          → Counted d k S (go_on f o) (go_on g o')
      go s none none x y = tt
      go s none (some r) x y = less_from S k r.1 x (g r.0 r.1) ((h y.1.0 r.0 y.1.1).fall.falls r.1)
      go s (some r) o' x y =
          subst (λ v. Counted d k S (f r.0 r.1) (go_on g v)) (sym x.1) ((h r.0 x.0 x.3).from r.1 x.2)

  abbrev counting : Together
  counting = record { Run = Count d k; run_give = count_give; run_then = count_then }

counted_weaken : {A B : Type 0} (Q : A → B → Type 0) (d e k : ℕ) → d ≤ e → (o : Option (A × ℕ)) (o' : Option (B × ℕ))
    → Counted d k Q o o' → Counted e k Q o o'
counted_weaken Q d e k l none o' x = x
counted_weaken Q d e k l (some r) o' x = let y = x.2 in (x.0, x.1, omega (arith, l, y), x.3)

count_step : {A B : Type 0} {m : Judging A} {n : Judging B} {Q : A → B → Type 0} (d k : ℕ) → Count d k m n Q
    → Count (suc d) k (step m) (step n) Q
count_step {m = m} {n = n} {Q = Q} d k t = record { fall = fall_step t.fall; from = go }
  where
    go : (s : ℕ) → s ≤ suc d → Counted (suc d) k Q (step m s) (step n (s + k))
    go zero l = step_less k (zero + k) (omega arith) t.fall
    go (suc s) l =
        rw (suc-add s k) (counted_weaken Q d (suc d) k (omega arith) (m s) (n (s + k)) (t.from s (omega arith)))

module _ {U : Type 0} (P : Problem) (K : Unknowns U) where
  judges_fall : (n : ℕ) → AsksRun Any (R P K) (D P K) (W P K) falling (judges P K n) (judges P K n)
  unfolding judges
  judges_fall zero =
      record { heads = λ h g p. record { falls = λ s. tt }; comparings = λ l r g j p q. record { falls = λ s. tt } }
  judges_fall (suc n) =
      record {
        heads = λ h g p. fall_step
            (headed_run Any (R P K) (D P K) (W P K) falling (judges P K n) (judges P K n) (judges_fall n) P K K
            (matching P K K Any Any own (alone P K)) p);
        comparings = λ l r g j p q. fall_step
            (compared_run Any (R P K) (D P K) (W P K) falling (judges P K n) (judges P K n) (judges_fall n) p q);
      }

  head_less : (n k t : ℕ) → t ≤ k → (h : Held U) → Less k ((judges P K n).head h t)
  unfolding judges
  head_less zero k t l h = tt
  head_less (suc n) k t l h =
      step_less k t l
      (headed_run Any (R P K) (D P K) (W P K) falling (judges P K n) (judges P K n) (judges_fall n) P K K
      (matching P K K Any Any own (alone P K)) (like_own h))

  compare_less : (n k t : ℕ) → t ≤ k → (l r : Held U) → Less k ((judges P K n).comparing l r t)
  unfolding judges
  compare_less zero k t le l r = tt
  compare_less (suc n) k t le l r =
      step_less k t le
      (compared_run Any (R P K) (D P K) (W P K) falling (judges P K n) (judges P K n) (judges_fall n) (like_own l) (like_own r))

  judges_count : (n k : ℕ) → AsksRun Any (R P K) (D P K) (W P K) (counting n k) (judges P K n) (judges P K (n + k))
  unfolding judges
  judges_count zero k =
      record {
        heads = λ h g p. record {
          fall = record { falls = ((judges_fall (zero + k)).heads h g p).falls };
          from = λ s l. head_less (zero + k) k (s + k) (omega arith) g;
        };
        comparings = λ l r g j p q. record {
          fall = record { falls = ((judges_fall (zero + k)).comparings l r g j p q).falls };
          from = λ s le. compare_less (zero + k) k (s + k) (omega arith) g j;
        };
      }
  judges_count (suc n) k =
      rw (suc-add n k)
      record {
        heads = λ h g p. count_step n k
            (headed_run Any (R P K) (D P K) (W P K) (counting n k) (judges P K n) (judges P K (n + k)) (judges_count n k) P K K
            (matching P K K Any Any own (alone P K)) p);
        comparings = λ l r g j p q. count_step n k
            (compared_run Any (R P K) (D P K) (W P K) (counting n k) (judges P K n) (judges P K (n + k)) (judges_count n k) p q);
      }

-- From the two runs to what an answer takes.
module _ {A : Type 0} (m : Judging A) (Q : A → A → Type 0) (same-result : (a b : A) → Q a b → b ≡ a)
    (starts : m 0 ≡ none) (counts : (s k : ℕ) → Counted s k Q (m s) (m (s + k))) (fewer-left : (s : ℕ) → Less (suc s) (m s)) where
  -- an answer with k of s + k steps left is one with s steps
  exact : (s k : ℕ) (a : A) → m (s + k) ≡ some (a, k) → m s ≡ some (a, 0)
  exact s k a e = go (m s) (subst (Counted s k Q (m s)) e (counts s k))
    where
      go : (o : Option (A × ℕ)) → Counted s k Q o (some (a, k)) → o ≡ some (a, 0)
      go none x = absurd (omega (arith, x))
      go (some r) x =
          let y = some-injective _ _ x.1 in
          let left : k ≡ r.1 + k = ap (λ (z : A × ℕ). z.1) y in
          let zero_left : r.1 ≡ 0 = omega (arith, left) in
          let same-one : r.0 ≡ a = sym (same-result r.0 x.0 x.3) ∙ sym (ap (λ (z : A × ℕ). z.0) y) in
          λ i. some (same-one i, zero_left i)

  more : (s k : ℕ) (a : A) (left : ℕ) → m s ≡ some (a, left) → m (s + k) ≡ some (a, left + k)
  more s k a left e =
      let x = subst (λ o. Counted s k Q o (m (s + k))) e (counts s k) in
      x.1 ∙ (λ i. some (same-result a x.0 x.3 i, left + k))

  less : (s k : ℕ) (a : A) → m (s + suc k) ≡ some (a, 0) → m s ≡ none
  less s k a e = go (m s) (subst (Counted s (suc k) Q (m s)) e (counts s (suc k)))
    where
      go : (o : Option (A × ℕ)) → Counted s (suc k) Q o (some (a, 0)) → o ≡ none
      go none x = refl
      go (some r) x =
          let y : 0 ≡ r.1 + suc k = ap (λ (z : A × ℕ). z.1) (some-injective _ _ x.1) in
          absurd (omega (arith, y))

  takes : (s left : ℕ) (a : A) → m s ≡ some (a, left) → Takes m a s left
  takes s left a e =
      record {
        steps = s - left;
        some_steps = at_least (s - left) refl;
        total = sub-add_cancel bound;
        enough = λ n l. subst (λ x. m x ≡ some (a, n - (s - left))) (add-sub_of_le l)
            (rw zero-add at (more (s - left) (n - (s - left)) a 0 spent));
        fewer = λ n l. less n (s - left - suc n) a
            (subst (λ x. m x ≡ some (a, 0)) (up n l) spent);
      }
    where
      bound : left ≤ s
      bound = let l : left < suc s = subst (Less (suc s)) e (fewer-left s) in omega (arith, l)

      spent : m (s - left) ≡ some (a, 0)
      spent = exact (s - left) left a (subst (λ x. m x ≡ some (a, left)) (sym (sub-add_cancel bound)) e)

      up : (n : ℕ) → n < s - left → s - left ≡ n + suc (s - left - suc n)
      up n l = omega (arith, l)

      at_least : (t : ℕ) → s - left ≡ t → 1 ≤ s - left
      at_least zero f = absurd (none-ne-some _ (sym starts ∙ subst (λ x. m x ≡ some (a, 0)) f spent))
      at_least (suc t) f = omega (arith, f)

module _ {U : Type 0} (P : Problem) (K : Unknowns U) where
  head_takes : (h : Held U) (s left : ℕ) (a : Head U) → judge P K h s ≡ some (a, left) → Takes (judge P K h) a s left
  unfolding judges
  head_takes h =
      takes (judge P K h) (H P K) (head_same P K) refl
      (λ s k. ((judges_count P K s k).heads h h (like_own h)).from s (le_refl s)) (λ s. head_less P K s (suc s) s (omega arith) h)

  verdict_takes : (l r : Held U) (s left : ℕ) (v : Verdict U) → compare P K l r s ≡ some (v, left) → Takes (compare P K l r) v s left
  unfolding judges
  verdict_takes l r =
      takes (compare P K l r) (V P K) (verdict_same P K) refl
      (λ s k. ((judges_count P K s k).comparings l r l r (like_own l) (like_own r)).from s (le_refl s))
      (λ s. compare_less P K s (suc s) s (omega arith) l r)

pub judging_takes : (U : Type 0) → JudgingTakes U
judging_takes U = head_takes

pub comparing_takes : (U : Type 0) → ComparingTakes U
comparing_takes U = verdict_takes

pub more_steps : (U : Type 0) → MoreSteps U
more_steps U P K h s left a e k =
    let t = head_takes P K h s left a e in
    let sum = t.total in
    let enough : t.steps ≤ s + k = omega (arith, sum) in
    let rest : s + k - t.steps ≡ left + k = omega (arith, sum) in
    t.enough (s + k) enough ∙ (λ i. some (a, rest i))
