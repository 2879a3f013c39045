-- The greatest depth and the least need by folds; the table of needs grows by one row after another. Assumes nothing.
use Rattle.std.proofs.Common.{◌≡◌, ℕ, zero, suc, ◌+◌, ◌<◌, ◌≤◌, min, max, List, [], ◌∷◌, map, length, get_or, set, sym, ap, ◌∙◌, subst, ⊎_elim, arith}
use denote.Param.Members.{Mut}
use Rattle.std.specs.List.{fold}
use Rattle.std.specs.Fn.{Called}
use Rattle.std.specs.Array.{IsFromFnResultFrom}
use Rattle.std.proofs.lemmas.List.{length-map, get_or-map}
use Rattle.syntax.specs.Least.{greatest}
use Rattle.std.proofs.lemmas.List.{get_or-set_same, get_or-set_other}
use Rattle.std.proofs.lemmas.Bool.{cases_eq, cases_lt}
use Rattle.depths.specs.Needs.{Easiest}

-- the greatest of what f gives, by a fold
pub greatest_fold : (f : ℕ → ℕ) (ts : List ℕ) (a : ℕ) → fold (λ a x. max a x) a (map f ts) ≡ max a (greatest f ts)
greatest_fold f [] a = omega arith
greatest_fold f (t ∷ ts) a = let ih = greatest_fold f ts (max a (f t)) in omega (arith, ih)

pub greatest_low : (f : ℕ → ℕ) (ts : List ℕ) (n : ℕ) → ((t : ℕ) → f t ≤ n) → greatest f ts ≤ n
greatest_low f [] n low = omega arith
greatest_low f (t ∷ ts) n low = let one = low t in let more = greatest_low f ts n low in omega (arith, one, more)

-- m is d, or the least of the numbers xs if one of them is less
record Least (d : ℕ) (xs : List ℕ) (m : ℕ) : Type 0 where
  low : m ≤ d
  least : (c : ℕ) → c < length xs → m ≤ get_or xs c 0
  reached : m < d → (c : ℕ) × (c < length xs) × (get_or xs c 0 ≡ m)

least_fold : (xs : List ℕ) (d : ℕ) → Least d xs (fold (λ a x. min a x) d xs)
least_fold [] d = record { low = omega arith; least = λ c l. absurd (omega (arith, l)); reached = λ l. absurd (omega (arith, l)) }
least_fold (x ∷ xs) d = one_more x xs d (fold (λ a x. min a x) (min d x) xs) (least_fold xs (min d x))
  where
    one_more : (x : ℕ) (xs : List ℕ) (d m : ℕ) → Least (min d x) xs m → Least d (x ∷ xs) m
    one_more x xs d m h = record { low = let l = h.low in omega (arith, l); least = each; reached = hit }
      where
        each : (c : ℕ) → c < length (x ∷ xs) → m ≤ get_or (x ∷ xs) c 0
        each zero l = let l = h.low in omega (arith, l)
        each (suc c) l = h.least c (omega (arith, l))

        hit : m < d → (c : ℕ) × (c < length (x ∷ xs)) × (get_or (x ∷ xs) c 0 ≡ m)
        hit l = ⊎_elim
            (λ lt. let q = h.reached lt in let b = q.1 in (suc q.0, omega (arith, b), q.2))
            (λ le. let low = h.low in (0, omega arith, omega (arith, l, le, low)))
            (cases_lt m (min d x))

-- the least of what constructors need, if that is at most 8
pub easiest_fold : (need : List ℕ → ℕ) (cs : List (List ℕ)) → Easiest (λ c. need (get_or cs c [])) (length cs) (fold (λ a x. min a x) 9 (map need cs))
easiest_fold need cs = record { low = L.low; least = each; reached = hit }
  where
    L : Least 9 (map need cs) (fold (λ a x. min a x) 9 (map need cs))
    L = least_fold (map need cs) 9

    each : (c : ℕ) → c < length cs → fold (λ a x. min a x) 9 (map need cs) ≤ need (get_or cs c [])
    each c l = let m = L.least c (simp length-map l) in let e = get_or-map need cs c [] 0 l in omega (arith, m, e)

    hit : fold (λ a x. min a x) 9 (map need cs) ≤ 8 → (c : ℕ) × (c < length cs) × (need (get_or cs c []) ≡ fold (λ a x. min a x) 9 (map need cs))
    hit l =
        let q = L.reached (omega (arith, l)) in
        let low : q.0 < length cs = simp length-map at q.1 in
        (q.0, low, sym (get_or-map need cs q.0 [] 0 low) ∙ q.2)

-- the rows below t hold the needs of their types
abbrev pub FilledTo : (ℕ → ℕ → ℕ) → List (List ℕ) → ℕ → Type 0
FilledTo need rows t = (u : ℕ) → u < t → (c : ℕ) → c < 16 → get_or (get_or rows u []) c 0 ≡ need u c

pub row_more : (need : ℕ → ℕ → ℕ) (rows : List (List ℕ)) (t : ℕ) (row : List ℕ) → t < length rows → FilledTo need rows t
    → ((c : ℕ) → c < 16 → get_or row c 0 ≡ need t c) → FilledTo need (set rows t row) (t + 1)
row_more need rows t row low before new u l c few = ⊎_elim here there (cases_eq u t)
  where
    here : u ≡ t → get_or (get_or (set rows t row) u []) c 0 ≡ need u c
    here e =
        ap (λ w. get_or (get_or (set rows t row) w []) c 0) e
        ∙ (ap (λ (r : List ℕ). get_or r c 0) (get_or-set_same rows t row [] low) ∙ (new c few ∙ ap (λ w. need w c) (sym e)))

    there : (u ≡ t → ⊥) → get_or (get_or (set rows t row) u []) c 0 ≡ need u c
    there ne = ap (λ (r : List ℕ). get_or r c 0) (get_or-set_other rows t u row [] ne) ∙ before u (omega arith) c few

-- what the calls of a closure at each index made
module _ {F : Type 0} (g : Mut F (ℕ × Unit {0}) ℕ) (f : F) (need : ℕ → ℕ) (gives : (i y : ℕ) (q : F) → i < 16 → Called g f (i, tt) y q → (y ≡ need i) × (q ≡ f)) where
  called_from : (n i : ℕ) (ys : List ℕ) → i + n ≤ 16 → IsFromFnResultFrom g f ys i n → (k : ℕ) → i ≤ k → k < i + n → get_or ys k 0 ≡ need k
  called_from zero i ys fits made k le lt = absurd (omega (arith, le, lt))
  called_from (suc n) i ys fits made k le lt =
      let now = gives i made.1 made.0 (omega (arith, fits)) made.3 in
      ⊎_elim
      (λ e. ap (λ j. get_or ys j 0) e ∙ made.2.1 0 ∙ now.0 ∙ ap need (sym e))
      (λ ne. called_from n (i + 1) ys (omega (arith, fits)) (subst (λ p. IsFromFnResultFrom g p ys (i + 1) n) now.1 made.4) k (omega (arith, le, ne)) (omega (arith, lt)))
      (cases_eq k i)

  pub called_each : (ys : List ℕ) → IsFromFnResultFrom g f ys 0 16 → (k : ℕ) → k < 16 → get_or ys k 0 ≡ need k
  called_each ys made k few = called_from 16 0 ys (omega arith) made k (omega arith) few
