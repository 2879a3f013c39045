-- One round accounts for the values that are deeper by one, since a constructor costs at least 1; after eight rounds
-- the table holds the least depths. Assumes nothing.
use Rattle.std.proofs.Common.{◌≡◌, ℕ, ◌+◌, ◌<◌, ◌≤◌, min, cond, ltb, List, [], ◌∷◌, length, get_or, set, Some, None, Option, sym, refl, ap, ◌∙◌, subst, ⊎_elim, arith}
use Rattle.std.proofs.lemmas.List.{get_or-set_same, get_or-set_other, length-set, get_or_past}
use Rattle.std.proofs.lemmas.Bool.{lt-ltb, le-ltb, cases_eq, cases_lt, cond_both}
use Rattle.syntax.specs.Typing.{Sig, Declared, constructors, arguments}
use Rattle.syntax.specs.Values.{Value, Values, build, v[], ◌v∷◌, OfType, of_type, OfTypes, of[], ◌of∷◌, cost, depth, deepest, Shallow}
use Rattle.syntax.specs.Least.{least_of, greatest, need_of}
use Rattle.depths.specs.Needs.{depth_at, need_by, Easiest}
use Rattle.depths.specs.Least.{Leasts, FirstWithout, FirstUnknown, Known}
use Rattle.depths.proofs.Finding.{cost_some}
use Rattle.depths.proofs.Leasts.{least_is_least, least_low, none_less, low_least}

pub depth_in : (least : List ℕ) (t : ℕ) → t < length least → depth_at least t ≡ min (get_or least t 0) 9
depth_in least t h = ap (λ b. cond b (min (get_or least t 0) 9) 9) (lt-ltb t (length least) h)

depth_out : (least : List ℕ) (t : ℕ) → length least ≤ t → depth_at least t ≡ 9
depth_out least t h = ap (λ b. cond b (min (get_or least t 0) 9) 9) (le-ltb t (length least) h)

pub depth_low : (least : List ℕ) (t : ℕ) → depth_at least t ≤ 9
depth_low least t =
    cond_both (ltb t (length least)) (min (get_or least t 0) 9) 9 (λ x. x ≤ 9) (λ e. omega arith) (λ e. omega arith)

at_same : (least : List ℕ) (t m : ℕ) → t < length least → m ≤ 9 → depth_at (set least t m) t ≡ m
at_same least t m h low =
    let l = length-set least t m in
    let d = depth_in (set least t m) t (omega (arith, l, h)) in
    let s = get_or-set_same least t m 0 h in
    omega (arith, d, s, low)

at_other : (least : List ℕ) (t m u : ℕ) → (u ≡ t → ⊥) → depth_at (set least t m) u ≡ depth_at least u
at_other least t m u ne =
    ap (λ n. cond (ltb u n) (min (get_or (set least t m) u 0) 9) 9) (length-set least t m)
    ∙ ap (λ x. cond (ltb u (length least)) (min x 9) 9) (get_or-set_other least t u m 0 ne)

module _ (sig : Sig) (least : List ℕ) (k t : ℕ) (known : Known sig least k t) where
  -- arguments as deep as the table says
  values_at : (ts : List ℕ) → greatest (depth_at least) ts ≤ 8
      → (vs : Values) × OfTypes sig ts vs × (deepest sig ts vs ≤ greatest (depth_at least) ts)
  values_at [] h = (v[], of[], omega arith)
  values_at (u ∷ ts) h =
      let v = known.sound u (omega (arith, h)) in
      let r = values_at ts (omega (arith, h)) in
      let low = v.low in
      let lows = r.2 in
      (v.value v∷ r.0, v.of of∷ r.1, omega (arith, low, lows))

  found : (m : ℕ) → Easiest (need_by sig least t) (constructors sig t) m → m ≤ 8 → Shallow sig t m
  found m e h =
      let q = e.reached h in
      let is = q.2 in
      let r = values_at (arguments sig t q.0) (omega (arith, is, h)) in
      let low = r.2 in
      record { value = build q.0 r.0; of = of_type q.1 r.1; low = omega (arith, is, low) }

  -- what is accounted for bounds the needs
  greatest_known : (ts : List ℕ) (vs : Values) → OfTypes sig ts vs → deepest sig ts vs < k
      → greatest (depth_at least) ts ≤ deepest sig ts vs
  greatest_known [] vs o h = omega arith
  greatest_known (u ∷ ts) v[] o h = elim o [ ]
  greatest_known (u ∷ ts) (v v∷ vs) (o of∷ os) h =
      let b = known.before u v o (omega (arith, h)) in
      let ih = greatest_known ts vs os (omega (arith, h)) in
      omega (arith, b, ih)

  lowest : (m : ℕ) → Easiest (need_by sig least t) (constructors sig t) m → (v : Value) → OfType sig t v → depth sig t v ≤ k → m ≤ depth sig t v
  lowest m e (build c vs) (of_type l o) h =
      let x = cost_some sig t c in
      let g = greatest_known (arguments sig t c) vs o (omega (arith, x, h)) in
      let n = e.least c l in
      omega (arith, g, n)

  pub stored : (m : ℕ) → t < length least → Easiest (need_by sig least t) (constructors sig t) m → Known sig (set least t m) k (t + 1)
  stored m low e = record { capped = capped'; sound = sound'; before = before'; done = done' }
    where
      same : depth_at (set least t m) t ≡ m
      same = at_same least t m low e.low

      capped' : (u : ℕ) → u < length (set least t m) → get_or (set least t m) u 0 ≤ 9
      capped' u lt = ⊎_elim
          (λ d. let s = ap (λ w. get_or (set least t m) w 0) d ∙ get_or-set_same least t m 0 low in let n = e.low in omega (arith, s, n))
          (λ ne. let s = get_or-set_other least t u m 0 ne in let l = length-set least t m in let n = known.capped u (omega (arith, l, lt)) in omega (arith, s, n))
          (cases_eq u t)

      sound' : (u : ℕ) → depth_at (set least t m) u ≤ 8 → Shallow sig u (depth_at (set least t m) u)
      sound' u h = ⊎_elim
          (λ d. let s = ap (depth_at (set least t m)) d ∙ same in
          subst (λ w. Shallow sig w (depth_at (set least t m) w)) (sym d) (subst (Shallow sig t) (sym same) (found m e (omega (arith, s, h)))))
          (λ ne. let o = at_other least t m u ne in subst (Shallow sig u) (sym o) (known.sound u (omega (arith, o, h))))
          (cases_eq u t)

      -- a value of the type t that is accounted for now
      here : (u : ℕ) → u ≡ t → (v : Value) → OfType sig u v → depth sig u v ≤ k → depth_at (set least t m) u ≤ depth sig u v
      here u d v o h =
          subst (λ w. OfType sig w v → depth sig w v ≤ k → depth_at (set least t m) w ≤ depth sig w v) (sym d)
          (λ o' h'. let l = lowest m e v o' h' in omega (arith, l, same)) o h

      before' : (u : ℕ) (v : Value) → OfType sig u v → depth sig u v < k → depth_at (set least t m) u ≤ depth sig u v
      before' u v o h = ⊎_elim
          (λ d. here u d v o (omega (arith, h)))
          (λ ne. let s = at_other least t m u ne in let p = known.before u v o h in omega (arith, s, p))
          (cases_eq u t)

      done' : (u : ℕ) → u < t + 1 → (v : Value) → OfType sig u v → depth sig u v ≤ k → depth_at (set least t m) u ≤ depth sig u v
      done' u lt v o h = ⊎_elim
          (λ d. here u d v o h)
          (λ ne. let s = at_other least t m u ne in let p = known.done u (omega arith) v o h in omega (arith, s, p))
          (cases_eq u t)

  pub next_round : length sig.types ≤ t → Known sig least (k + 1) 0
  next_round all =
      record {
        capped = known.capped;
        sound = known.sound;
        before = λ u v o h. ⊎_elim (λ lt. known.done u lt v o (omega (arith, h))) (λ le. past u v o le) (cases_lt u t);
        done = λ u lt. absurd (omega (arith, lt));
      }
    where
      past : (u : ℕ) (v : Value) → OfType sig u v → t ≤ u → depth_at least u ≤ depth sig u v
      past u (build c vs) (of_type l o) le =
          let n : constructors sig u ≡ 0 = ap length (get_or_past sig.types u [] (omega (arith, all, le))) in
          absurd (omega (arith, n, l))

pub unknown_all : (sig : Sig) (least : List ℕ) → ((t : ℕ) → t < length least → get_or least t 0 ≡ 9) → Known sig least 1 0
unknown_all sig least nine =
    record {
      capped = λ u lt. let n = nine u lt in omega (arith, n);
      sound = λ u h. let n = all u in absurd (omega (arith, n, h));
      before = λ u v o h. absurd (some u v h);
      done = λ u lt. absurd (omega (arith, lt));
    }
  where
    all : (u : ℕ) → depth_at least u ≡ 9
    all u = ⊎_elim
        (λ lt. let d = depth_in least u lt in let n = nine u lt in omega (arith, d, n))
        (λ le. depth_out least u le)
        (cases_lt u (length least))

    some : (u : ℕ) (v : Value) → depth sig u v < 1 → ⊥
    some u (build c vs) h = let x = cost_some sig u c in omega (arith, x, h)

-- When the values of depth 8 are accounted for, the table is right for every number, declared or not.
pub all_known : (sig : Sig) (least : List ℕ) → Known sig least 9 0 → (u : ℕ) → depth_at least u ≡ least_of sig u
all_known sig least known u = ⊎_elim
    (λ lt. let s = known.sound u (omega (arith, lt)) in
    let low = s.low in
    let m = none_less sig u s.value s.of in
    let i = (least_is_least sig u).low (record { value = s.value; of = s.of; low = omega (arith, low, lt) }) in
    let r = i.reached in
    let b = known.before u i.value i.of (omega (arith, r, m, low, lt)) in
    omega (arith, low, m, r, b))
    (λ le. let d = depth_low least u in
    let n = (least_is_least sig u).high (λ s. let low = s.low in let b = known.before u s.value s.of (omega (arith, low)) in omega (arith, low, b, le)) in
    omega (arith, le, d, n))
    (cases_lt (depth_at least u) 9)

pub leasts : (sig : Sig) (least : List ℕ) → length least ≡ length sig.types → Known sig least 9 0 → Leasts sig least
leasts sig least long known =
    record {
      long = long;
      each = λ t d. let lt : t < length least = omega (arith, long, d) in
          let a = all_known sig least known t in
          let i = depth_in least t lt in
          let n = known.capped t lt in
          omega (arith, a, i, n);
    }

-- the first type of no known depth is the first without a value
pub first_without : (sig : Sig) (least : List ℕ) → Leasts sig least → (r : Option ℕ)
    → FirstUnknown least r → FirstWithout sig r
first_without sig least L r f = go r f
  where
    has : (t : ℕ) → Declared sig t → get_or least t 0 ≤ 8 → Shallow sig t 8
    has t d low = let e = L.each t d in (least_is_least sig t).bound (omega (arith, e, low))

    lacks : (t : ℕ) → Declared sig t → 8 < get_or least t 0 → Shallow sig t 8 → ⊥
    lacks t d high s =
        let e = L.each t d in
        let l = low_least sig t s in
        omega (arith, e, l, high)

    go : (o : Option ℕ) → FirstUnknown least o → FirstWithout sig o
    go None all = λ t d. let long = L.long in has t d (all t (omega (arith, long, d)))
    go (Some t) q =
        let long = L.long in
        let lt = q.0 in
        let declared : Declared sig t = omega (arith, long, lt) in
        (declared, lacks t declared q.1, λ u h. has u (omega (arith, h, declared)) (q.2 u h))

-- a right table gives every number the least depth, declared or not, and so every constructor its need
right_at : (sig : Sig) (least : List ℕ) → Leasts sig least → (u : ℕ) → depth_at least u ≡ least_of sig u
right_at sig least L u = ⊎_elim inside outside (cases_lt u (length least))
  where
    inside : u < length least → depth_at least u ≡ least_of sig u
    inside lt =
        let long = L.long in
        let e = L.each u (omega (arith, long, lt)) in
        let d = depth_in least u lt in
        let n = least_low sig u in
        omega (arith, e, d, n)

    empty : length least ≤ u → (v : Value) → OfType sig u v → ⊥
    empty le (build c vs) (of_type l o) =
        let long = L.long in
        let n : constructors sig u ≡ 0 = ap length (get_or_past sig.types u [] (omega (arith, long, le))) in
        omega (arith, n, l)

    outside : length least ≤ u → depth_at least u ≡ least_of sig u
    outside le = depth_out least u le ∙ sym ((least_is_least sig u).high (λ s. empty le s.value s.of))

greatest_same : (f g : ℕ → ℕ) → ((u : ℕ) → f u ≡ g u) → (ts : List ℕ) → greatest f ts ≡ greatest g ts
greatest_same f g e [] = refl
greatest_same f g e (t ∷ ts) =
    let a = e t in
    let ih = greatest_same f g e ts in
    omega (arith, a, ih)

pub need_right : (sig : Sig) (least : List ℕ) → Leasts sig least → (t c : ℕ) → need_by sig least t c ≡ need_of sig t c
need_right sig least L t c = ap (λ n. cost sig t c + n) (greatest_same (depth_at least) (least_of sig) (right_at sig least L) (arguments sig t c))
