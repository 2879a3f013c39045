-- The first number of lists joined, and a walk over items that stops at the first.
use Rattle.std.proofs.Common.{◌≡◌, ℕ, zero, suc, ◌+◌, ◌*◌, ◌<◌, ◌≤◌, Bool, true, false, cond, not, ltb, nat_le, nat_lt, List, [], ◌∷◌, ◌++◌, length, get_or, slice_index_or, drop, position, Some, None, Option, sym, refl, ap, ◌∙◌, arith}
use Rattle.std.specs.List.{flat_map, position_from}
use Rattle.std.specs.Option.{MatchOption, option_map}
use Rattle.std.proofs.lemmas.Bool.Decides.{nat_tests}
use Rattle.std.proofs.lemmas.Iterator.Adapters.{position_from-zero}
use Rattle.std.proofs.lemmas.List.{at_drop_more, at_drop_all}
use Rattle.declarations.specs.Numbers.{Number, number, first_from}

abbrev pub otherwise : Option ℕ → Option ℕ → Option ℕ
otherwise None r = r
otherwise (Some p) r = Some p

by_test : (b : Bool) (p : ℕ) (r s t : Option ℕ) → r ≡ otherwise s t → cond b r (Some p) ≡ otherwise (cond b s (Some p)) t
by_test true p r s t e = e
by_test false p r s t e = refl

pub first_joined : (n : ℕ) (xs ys : List Number) → first_from n (xs ++ ys) ≡ otherwise (first_from n xs) (first_from n ys)
first_joined n [] ys = refl
first_joined n (x ∷ xs) ys = by_test (ltb x.type n) x.place _ _ _ (first_joined n xs ys)

-- G lists the numbers of items that stand one after another from a place on, A those of one item, and w is its width.
module _ {X : Type 0} (n : ℕ) (G : ℕ → List X → List Number) (A : ℕ → X → List Number) (w : X → ℕ)
    (none_left : (p : ℕ) → G p [] ≡ []) (one_more : (p : ℕ) (x : X) (xs : List X) → G p (x ∷ xs) ≡ A p x ++ G (p + w x) xs)
    (xs : List X) (i p : ℕ) where
  here : (d : X) → i < length xs → first_from n (G p (drop i xs)) ≡ otherwise (first_from n (A p (get_or xs i d))) (first_from n (G (p + w (get_or xs i d)) (drop (i + 1) xs)))
  here d h =
      at_drop_more (λ ys. first_from n (G p ys)) xs i d h ∙ (ap (first_from n) (one_more p (get_or xs i d) (drop (i + 1) xs))
      ∙ first_joined n (A p (get_or xs i d)) (G (p + w (get_or xs i d)) (drop (i + 1) xs)))

  -- an item that has none is passed
  pub passes : (d : X) → i < length xs → first_from n (A p (get_or xs i d)) ≡ None
      → first_from n (G p (drop i xs)) ≡ first_from n (G (p + w (get_or xs i d)) (drop (i + 1) xs))
  passes d h e = here d h ∙ ap (λ o. otherwise o (first_from n (G (p + w (get_or xs i d)) (drop (i + 1) xs)))) e

  pub stops : (d : X) → i < length xs → (q : ℕ) → first_from n (A p (get_or xs i d)) ≡ Some q → first_from n (G p (drop i xs)) ≡ Some q
  stops d h q e = here d h ∙ ap (λ o. otherwise o (first_from n (G (p + w (get_or xs i d)) (drop (i + 1) xs)))) e

  pub ends : length xs ≤ i → first_from n (G p (drop i xs)) ≡ None
  ends h = at_drop_all (λ ys. first_from n (G p ys)) xs i h ∙ ap (first_from n) (none_left p)

-- one list after the other: what the first has, or else what the second has
pub joined : (n : ℕ) (xs ys : List Number) (o r : Option ℕ) → o ≡ first_from n xs → MatchOption o (r ≡ first_from n ys) (λ p. r ≡ Some p)
    → r ≡ first_from n (xs ++ ys)
joined n xs ys o r e h = by_first o e h ∙ sym (first_joined n xs ys)
  where
    by_first : (o : Option ℕ) → o ≡ first_from n xs → MatchOption o (r ≡ first_from n ys) (λ p. r ≡ Some p)
        → r ≡ otherwise (first_from n xs) (first_from n ys)
    by_first None e h = h ∙ ap (λ o. otherwise o (first_from n ys)) e
    by_first (Some p) e h = h ∙ ap (λ o. otherwise o (first_from n ys)) e

-- r is what g finds at the first item at which it finds something
abbrev pub IsFound : {X : Type 0} → (X → Option ℕ) → List X → Option ℕ → Type 0
IsFound {X} g xs r =
    MatchOption r ((k : ℕ) (d : X) → k < length xs → g (slice_index_or xs k d) ≡ None)
    (λ y. (i : ℕ) × (i < length xs) × ((d : X) → g (slice_index_or xs i d) ≡ Some y) × ((k : ℕ) (d : X) → k < i → g (slice_index_or xs k d) ≡ None))

pub found : {X : Type 0} (n : ℕ) (A : X → List Number) (xs : List X) (r : Option ℕ) → IsFound (λ x. first_from n (A x)) xs r
    → r ≡ first_from n (flat_map A xs)
found n A [] None h = refl
found n A [] (Some y) h = absurd (omega (arith, h.1))
found n A (x ∷ xs) None h =
    joined n (A x) (flat_map A xs) None None (sym (h 0 x (omega arith))) (found n A xs None (λ k d l. h (suc k) d (omega arith)))
found n A (x ∷ xs) (Some y) (zero, low, hit, none) =
    joined n (A x) (flat_map A xs) (Some y) (Some y) (sym (hit x)) refl
found n A (x ∷ xs) (Some y) (suc i, low, hit, none) =
    joined n (A x) (flat_map A xs) None (Some y) (sym (none 0 x (omega arith)))
    (found n A xs (Some y) (i, omega arith, hit, λ k d l. none (suc k) d (omega arith)))

turned : (n t : ℕ) → nat_le n t ≡ not (nat_lt t n)
turned n t = grind (arith, nat_tests)

-- Numbers of which the one at an index i stands at `at i`: the first that is not below n is at the first such index.
module _ (n : ℕ) (G : ℕ → List ℕ → List Number) (first width : ℕ) (none_left : (p : ℕ) → G p [] ≡ [])
    (one_more : (p t : ℕ) (ts : List ℕ) → G p (t ∷ ts) ≡ number (p + first) t ∷ G (p + width) ts) where
  from : (p k q : ℕ) (ts : List ℕ) → p + width * k ≡ q → option_map (λ i. p + width * i + first) (position_from (nat_le n) k ts) ≡ first_from n (G q ts)
  from p k q [] e = sym (ap (first_from n) (none_left q))
  from p k q (t ∷ ts) e =
      let next : p + width * (k + 1) ≡ q + width = grind arith in
      by_test' (nat_le n t) (nat_lt t n) (turned n t) _ _ _ _ (ap Some (ap (λ x. x + first) e)) (from p (k + 1) (q + width) ts next)
      ∙ sym (ap (first_from n) (one_more q t ts))
    where
      by_test' : (a b : Bool) → a ≡ not b → (i j : ℕ) (r s : Option ℕ) → Some (p + width * i + first) ≡ Some j
          → option_map (λ i. p + width * i + first) r ≡ s → option_map (λ i. p + width * i + first) (cond a (Some i) r) ≡ cond b s (Some j)
      by_test' true false e i j r s f g = f
      by_test' false true e i j r s f g = g
      by_test' true true e i j r s f g = cc
      by_test' false false e i j r s f g = cc

  pub placed : (p : ℕ) (ts : List ℕ) → option_map (λ i. p + width * i + first) (position (nat_le n) ts) ≡ first_from n (G p ts)
  placed p ts = ap (option_map (λ i. p + width * i + first)) (position_from-zero (nat_le n) ts) ∙ from p 0 p ts (omega arith)
