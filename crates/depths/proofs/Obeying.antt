-- The computed least depths and needs obey the laws of depth: a value of least depth shows which constructor is the easiest,
-- and arguments of least depth make a value as deep as its constructor needs. Assumes nothing.
use Rattle.std.proofs.Common.{◌≡◌, ℕ, zero, suc, ◌+◌, ◌<◌, ◌≤◌, List, [], ◌∷◌, length, get_or, sym, refl, ap, subst, ⊎_elim, arith}
use mathlib.Core.Option
use Rattle.std.proofs.lemmas.Bool.{cases_lt}
use Rattle.syntax.specs.Typing.{Sig, constructors, arguments}
use Rattle.syntax.specs.Values.{Value, Values, build, v[], ◌v∷◌, OfType, of_type, OfTypes, of[], ◌of∷◌, cost, depth, deepest}
use Rattle.syntax.specs.Least.{shallow, least_of, greatest, need_of}
use Rattle.depths.specs.Laws.{Inhabited, Depths, DepthsStand}
use Rattle.depths.proofs.Finding.{cost_some}
use Rattle.depths.proofs.Leasts.{least_low, found, none_less, low_least}

greatest_above : (f : ℕ → ℕ) (ts : List ℕ) (j : ℕ) → j < length ts → f (get_or ts j 0) ≤ greatest f ts
greatest_above f [] j l = absurd (omega (arith, l))
greatest_above f (t ∷ ts) zero l = omega arith
greatest_above f (t ∷ ts) (suc j) l = let ih = greatest_above f ts j (omega (arith, l)) in omega (arith, ih)

abbrev pub constructor_of : Value → ℕ
constructor_of (build c vs) = c

module _ (sig : Sig) where
  -- a value of least depth, for a type that has a value no deeper than 8
  abbrev pub smallest_of : ℕ → Value
  smallest_of t = Option.get_or (shallow sig (least_of sig t) (least_of sig t) t) (build 0 v[])

  pub smallest_right : (t : ℕ) → least_of sig t ≤ 8 → OfType sig t (smallest_of t) × (depth sig t (smallest_of t) ≡ least_of sig t)
  smallest_right t low =
      let q = found sig t low in
      let m = none_less sig t q.0 q.2 in
      let l = q.3 in
      let deep : depth sig t q.0 ≡ least_of sig t = omega (arith, m, l) in
      let same : q.0 ≡ smallest_of t = sym (ap (λ o. Option.get_or o (build 0 v[])) q.1) in
      (subst (OfType sig t) same q.2, subst (λ (x : Value). depth sig t x ≡ least_of sig t) same deep)

  -- arguments of least depth
  smallest_all : (ts : List ℕ) → greatest (least_of sig) ts ≤ 8
      → (vs : Values) × OfTypes sig ts vs × (deepest sig ts vs ≡ greatest (least_of sig) ts)
  smallest_all [] low = (v[], of[], refl)
  smallest_all (t ∷ ts) low =
      let a = smallest_right t (omega (arith, low)) in
      let r = smallest_all ts (omega (arith, low)) in
      let a1 = a.1 in
      let r2 = r.2 in
      (smallest_of t v∷ r.0, a.0 of∷ r.1, omega (arith, a1, r2))

  greatest_below : (ts : List ℕ) (vs : Values) → OfTypes sig ts vs → greatest (least_of sig) ts ≤ deepest sig ts vs
  greatest_below [] vs q = omega arith
  greatest_below (t ∷ ts) v[] q = elim q [ ]
  greatest_below (t ∷ ts) (v v∷ vs) (q of∷ qs) =
      let a = none_less sig t v q in
      let ih = greatest_below ts vs qs in
      omega (arith, a, ih)

  pub need_below : (t c : ℕ) (vs : Values) → OfType sig t (build c vs) → need_of sig t c ≤ depth sig t (build c vs)
  need_below t c vs (of_type l q) =
      let g = greatest_below (arguments sig t c) vs q in
      omega (arith, g)

  -- An argument type without a shallow value makes the need more than 9, which no least depth is.
  pub least_below : (t c : ℕ) → c < constructors sig t → least_of sig t ≤ need_of sig t c
  least_below t c l = ⊎_elim many few (cases_lt 8 (greatest (least_of sig) (arguments sig t c)))
    where
      many : 8 < greatest (least_of sig) (arguments sig t c) → least_of sig t ≤ need_of sig t c
      many g = let m = least_low sig t in omega (arith, g, m)

      few : greatest (least_of sig) (arguments sig t c) ≤ 8 → least_of sig t ≤ need_of sig t c
      few g =
          let r = smallest_all (arguments sig t c) g in
          let m = none_less sig t (build c r.0) (of_type l r.1) in
          let r2 = r.2 in
          omega (arith, m, r2)

  pub easy : (t : ℕ) → least_of sig t ≤ 8
      → (constructor_of (smallest_of t) < constructors sig t) × (need_of sig t (constructor_of (smallest_of t)) ≡ least_of sig t)
  easy t low = go (smallest_of t) (smallest_right t low).0 (smallest_right t low).1
    where
      go : (v : Value) → OfType sig t v → depth sig t v ≡ least_of sig t
          → (constructor_of v < constructors sig t) × (need_of sig t (constructor_of v) ≡ least_of sig t)
      go (build c vs) (of_type l q) e =
          let a = need_below t c vs (of_type l q) in
          let b = least_below t c l in
          (l, omega (arith, a, b, e))

  pub room_in : (t c j : ℕ) → j < length (arguments sig t c) → cost sig t c + least_of sig (get_or (arguments sig t c) j 0) ≤ need_of sig t c
  room_in t c j m = let g = greatest_above (least_of sig) (arguments sig t c) j m in omega (arith, g)

  abbrev pub depths : Inhabited sig → Depths sig
  depths inhabited =
      record {
        cost = cost sig;
        least = least_of sig;
        need = need_of sig;
        easiest = λ t. constructor_of (smallest_of t);
        smallest = smallest_of;
        adds = λ t c vs. refl;
        costs = cost_some sig;
        own = λ t c. omega arith;
        needs = need_below;
        least_first = least_below;
        room = room_in;
        easiest_is = λ t d. (easy t (low_least sig t (inhabited t d))).0;
        easiest_needs = λ t d. (easy t (low_least sig t (inhabited t d))).1;
        smallest_is = λ t d. (smallest_right t (low_least sig t (inhabited t d))).0;
        smallest_depth = λ t d. (smallest_right t (low_least sig t (inhabited t d))).1;
      }

pub depths_stand_lem : (sig : Sig) → Inhabited sig → DepthsStand sig
depths_stand_lem sig inhabited = (depths sig inhabited, refl, refl, refl)
