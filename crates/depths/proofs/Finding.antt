-- The search for a shallow value is right: what it finds has the type and is no deeper than the bound,
-- and where such a value exists it finds one. Assumes nothing.
use Rattle.std.proofs.Common.{◌≡◌, ℕ, zero, suc, ◌+◌, ◌-◌, ◌<◌, ◌≤◌, Bool, true, false, cond, leb, ◌⊎◌, List, [], ◌∷◌, length, get_or, sym, refl, ap, ◌∙◌, subst, inl, inr, arith}
use mathlib.Core.Option.{Option, none, some, none-ne-some, some-injective}
use Rattle.std.proofs.lemmas.Bool.{leb-true, le-leb, cases_lt, cond-true}
use Rattle.syntax.specs.Typing.{Sig, cases_of, constructors, arguments}
use Rattle.syntax.specs.Values.{Value, Values, build, v[], ◌v∷◌, OfType, of_type, OfTypes, of[], ◌of∷◌, cost, depth, deepest}
use Rattle.syntax.specs.Least.{both_of, all_of, build?, or_else, first_of, shallow, at_first, first_depth}

pub not_none : {A B : Type 0} {a : A} {o : Option A} → o ≡ none → o ≡ some a → B
not_none {a = a} e f = absurd (none-ne-some a (sym e ∙ f))

-- All that the proofs use of costs.
pub cost_some : (sig : Sig) (t c : ℕ) → 1 ≤ cost sig t c
cost_some sig t c = omega arith

-- the parts of a search
all_of_cons : (s : ℕ → Option Value) (t : ℕ) (ts : List ℕ) (vs : Values) → all_of s (t ∷ ts) ≡ some vs
    → (v : Value) × (r : Values) × (s t ≡ some v) × (all_of s ts ≡ some r) × (v v∷ r ≡ vs)
all_of_cons s t ts vs e = go (s t) (all_of s ts) refl refl e
  where
    go : (o : Option Value) (q : Option Values) → s t ≡ o → all_of s ts ≡ q → both_of o q ≡ some vs
        → (v : Value) × (r : Values) × (s t ≡ some v) × (all_of s ts ≡ some r) × (v v∷ r ≡ vs)
    go none q a b f = absurd (none-ne-some vs f)
    go (some v) none a b f = absurd (none-ne-some vs f)
    go (some v) (some r) a b f = (v, r, a, b, some-injective (v v∷ r) vs f)

build?_is : (c : ℕ) (o : Option Values) (v : Value) → build? c o ≡ some v → (vs : Values) × (o ≡ some vs) × (v ≡ build c vs)
build?_is c none v e = absurd (none-ne-some v e)
build?_is c (some vs) v e = (vs, refl, sym (some-injective (build c vs) v e))

first_of_is : (g : ℕ → List ℕ → Option Value) (c : ℕ) (cs : List (List ℕ)) (v : Value) → first_of g c cs ≡ some v
    → (i : ℕ) × (i < length cs) × (g (c + i) (get_or cs i []) ≡ some v)
first_of_is g c [] v e = absurd (none-ne-some v e)
first_of_is g c (ts ∷ cs) v e = go (g c ts) refl e (first_of_is g (suc c) cs v)
  where
    go : (o : Option Value) → g c ts ≡ o → or_else o (first_of g (suc c) cs) ≡ some v
        → (first_of g (suc c) cs ≡ some v → (i : ℕ) × (i < length cs) × (g (suc c + i) (get_or cs i []) ≡ some v))
        → (i : ℕ) × (i < length (ts ∷ cs)) × (g (c + i) (get_or (ts ∷ cs) i []) ≡ some v)
    go none a f ih =
        let q = ih f in
        let l = q.1 in
        (suc q.0, omega (arith, l), subst (λ x. g x (get_or cs q.0 []) ≡ some v) (omega arith) q.2)
    go (some x) a f ih = (0, omega arith, subst (λ y. g y ts ≡ some v) (omega arith) (a ∙ f))

first_of_some : (g : ℕ → List ℕ → Option Value) (c : ℕ) (cs : List (List ℕ)) (i : ℕ) (v : Value) → i < length cs
    → g (c + i) (get_or cs i []) ≡ some v → (r : Value) × (first_of g c cs ≡ some r)
first_of_some g c [] i v l e = absurd (omega (arith, l))
first_of_some g c (ts ∷ cs) zero v l e = (v, ap (λ o. or_else o (first_of g (suc c) cs)) (subst (λ y. g y ts ≡ some v) (omega arith) e))
first_of_some g c (ts ∷ cs) (suc i) v l e =
    go (g c ts) refl (first_of_some g (suc c) cs i v (omega (arith, l)) (subst (λ x. g x (get_or cs i []) ≡ some v) (omega arith) e))
  where
    go : (o : Option Value) → g c ts ≡ o → (r : Value) × (first_of g (suc c) cs ≡ some r)
        → (r : Value) × (or_else (g c ts) (first_of g (suc c) cs) ≡ some r)
    go none a q = (q.0, ap (λ o. or_else o (first_of g (suc c) cs)) a ∙ q.1)
    go (some x) a q = (x, ap (λ o. or_else o (first_of g (suc c) cs)) a)

-- the first number at which something is found, and none before it
pub first_depth_some : (s : ℕ → Option Value) (k n : ℕ) → first_depth s k n < k + n → (r : Value) × (s (first_depth s k n) ≡ some r)
first_depth_some s k zero l = absurd (omega (arith, l))
first_depth_some s k (suc n) l = go (s k) refl l (first_depth_some s (suc k) n)
  where
    go : (o : Option Value) → s k ≡ o → at_first o k (first_depth s (suc k) n) < k + suc n
        → (first_depth s (suc k) n < suc k + n → (r : Value) × (s (first_depth s (suc k) n) ≡ some r))
        → (r : Value) × (s (at_first o k (first_depth s (suc k) n)) ≡ some r)
    go none f m ih = ih (omega (arith, m))
    go (some x) f m ih = (x, f)

pub first_depth_low : (s : ℕ → Option Value) (k n : ℕ) → first_depth s k n ≤ k + n
first_depth_low s k zero = omega arith
first_depth_low s k (suc n) = go (s k) (first_depth_low s (suc k) n)
  where
    go : (o : Option Value) → first_depth s (suc k) n ≤ suc k + n → at_first o k (first_depth s (suc k) n) ≤ k + suc n
    go none ih = omega (arith, ih)
    go (some x) ih = omega arith

pub first_depth_first : (s : ℕ → Option Value) (k n j : ℕ) → k ≤ j → j < first_depth s k n → s j ≡ none
first_depth_first s k zero j a b = absurd (omega (arith, a, b))
first_depth_first s k (suc n) j a b = go (s k) refl b (first_depth_first s (suc k) n j)
  where
    go : (o : Option Value) → s k ≡ o → j < at_first o k (first_depth s (suc k) n)
        → (suc k ≤ j → j < first_depth s (suc k) n → s j ≡ none) → s j ≡ none
    go none f l ih = next (cases_lt k j)
      where
        next : (k < j) ⊎ (j ≤ k) → s j ≡ none
        next (inl m) = ih (omega (arith, m)) l
        next (inr m) = subst (λ x. s x ≡ none) (omega (arith, a, m)) f
    go (some x) f l ih = absurd (omega (arith, a, l))

module _ (sig : Sig) where
  -- what s finds is right, within b
  abbrev Right : ℕ → (ℕ → Option Value) → Type 0
  Right b s = (t : ℕ) (v : Value) → s t ≡ some v → OfType sig t v × (depth sig t v ≤ b)

  all_of_right : (b : ℕ) (s : ℕ → Option Value) → Right b s → (ts : List ℕ) (vs : Values) → all_of s ts ≡ some vs
      → OfTypes sig ts vs × (deepest sig ts vs ≤ b)
  all_of_right b s r [] vs e =
      let q : v[] ≡ vs = some-injective v[] vs e in
      (subst (OfTypes sig []) q of[], subst (λ (x : Values). deepest sig [] x ≤ b) q (omega arith))
  all_of_right b s r (t ∷ ts) vs e =
      let q = all_of_cons s t ts vs e in
      let a = r t q.0 q.2 in
      let ih = all_of_right b s r ts q.1 q.3 in
      let a1 = a.1 in
      let i1 = ih.1 in
      let deep : deepest sig (t ∷ ts) (q.0 v∷ q.1) ≤ b = omega (arith, a1, i1) in
      (subst (OfTypes sig (t ∷ ts)) q.4 (a.0 of∷ ih.0), subst (λ (x : Values). deepest sig (t ∷ ts) x ≤ b) q.4 deep)

  pub shallow_right : (f b : ℕ) → Right b (shallow sig f b)
  shallow_right zero b t v e = absurd (none-ne-some v e)
  shallow_right (suc f) b t v e =
      let q = first_of_is _ 0 (cases_of sig t) v e in
      go q.0 q.1
      (subst (λ x. cond (leb (cost sig t x) b) (build? x (all_of (shallow sig f (b - cost sig t x)) (arguments sig t q.0))) none ≡ some v)
      (omega arith) q.2) (λ c. shallow_right f (b - cost sig t c))
    where
      go : (c : ℕ) → c < constructors sig t
          → cond (leb (cost sig t c) b) (build? c (all_of (shallow sig f (b - cost sig t c)) (arguments sig t c))) none ≡ some v
          → ((d : ℕ) → Right (b - cost sig t d) (shallow sig f (b - cost sig t d))) → OfType sig t v × (depth sig t v ≤ b)
      go c l g ih = last (leb (cost sig t c) b) refl g
        where
          last : (x : Bool) → leb (cost sig t c) b ≡ x
              → cond x (build? c (all_of (shallow sig f (b - cost sig t c)) (arguments sig t c))) none ≡ some v → OfType sig t v × (depth sig t v ≤ b)
          last true s h =
              let q = build?_is c _ v h in
              let r = all_of_right (b - cost sig t c) _ (ih c) (arguments sig t c) q.0 q.1 in
              let r1 = r.1 in
              let small = leb-true (cost sig t c) b s in
              let deep : depth sig t (build c q.0) ≤ b = omega (arith, r1, small) in
              (subst (OfType sig t) (sym q.2) (of_type l r.0), subst (λ (x : Value). depth sig t x ≤ b) (sym q.2) deep)
          last false s h = absurd (none-ne-some v h)

  -- s finds something wherever a value within b exists
  abbrev Finds : ℕ → (ℕ → Option Value) → Type 0
  Finds b s = (t : ℕ) (v : Value) → OfType sig t v → depth sig t v ≤ b → (r : Value) × (s t ≡ some r)

  all_of_finds : (b : ℕ) (s : ℕ → Option Value) → Finds b s → (ts : List ℕ) (vs : Values) → OfTypes sig ts vs → deepest sig ts vs ≤ b
      → (rs : Values) × (all_of s ts ≡ some rs)
  all_of_finds b s f [] vs q l = (v[], refl)
  all_of_finds b s f (t ∷ ts) v[] q l = elim q [ ]
  all_of_finds b s f (t ∷ ts) (v v∷ vs) (q of∷ qs) l =
      let a = f t v q (omega (arith, l)) in
      let r = all_of_finds b s f ts vs qs (omega (arith, l)) in
      (a.0 v∷ r.0, ap (λ o. both_of o (all_of s ts)) a.1 ∙ ap (both_of (some a.0)) r.1)

  -- Since a constructor costs at least 1, b rounds suffice for the bound b.
  pub shallow_finds : (f b : ℕ) → b ≤ f → Finds b (shallow sig f b)
  shallow_finds zero b k t (build c vs) (of_type l q) d =
      let x = cost_some sig t c in
      absurd (omega (arith, x, d, k))
  shallow_finds (suc f) b k t (build c vs) (of_type l q) d =
      let x = cost_some sig t c in
      let r = all_of_finds (b - cost sig t c) (shallow sig f (b - cost sig t c)) (shallow_finds f (b - cost sig t c) (omega (arith, x, k)))
      (arguments sig t c) vs q (omega (arith, d)) in
      let small : leb (cost sig t c) b ≡ true = le-leb (cost sig t c) b (omega (arith, d)) in
      let found : cond (leb (cost sig t c) b) (build? c (all_of (shallow sig f (b - cost sig t c)) (arguments sig t c))) none ≡ some (build c r.0) =
      cond-true _ _ _ small ∙ ap (build? c) r.1 in
      first_of_some _ 0 (cases_of sig t) c (build c r.0) l
      (subst (λ y. cond (leb (cost sig t y) b) (build? y (all_of (shallow sig f (b - cost sig t y)) (arguments sig t c))) none ≡ some (build c r.0))
      (omega arith) found)
