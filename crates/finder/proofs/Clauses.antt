-- What the clauses of an opening and of a conflict say of a way. Assumes nothing.
use Rattle.std.proofs.Common.{◌≡◌, ℕ, zero, suc, ◌+◌, ◌-◌, ◌*◌, ◌%◌, ◌<◌, Bool, true, false, not, ◌&&◌, ◌||◌, ◌⊎◌, List, [], ◌∷◌, ◌++◌, length, sym, refl, ap, ◌∙◌, subst, inl, inr, suc-mul, mul-suc, arith, length-append}
use mathlib.Core.Option.{some}
use Rattle.std.proofs.Math.Bool.{and_assoc, or_assoc, and-true, or-false}
use Rattle.std.proofs.lemmas.Bool.{and_parts, and_from, or_cases, or_left, or_right, cases_order, eq-eqb, ne_eqb, cond-true, cond-false, false≢true}
use Rattle.chooser.specs.Ways.{lit, some as any}
use Rattle.judging.specs.Asked.{◌∈◌, first, later}
use Rattle.finder.specs.Tables.{Table, opening}
use Rattle.finder.specs.Ways.{Way, OneCase}
use Rattle.finder.specs.Clauses.{on, off, all_met, some_case, not_with, not_two, opening_clauses, entries, OpeningTakes}
use Rattle.finder.specs.Conflicts.{Choice, Conflict, differs, some_differs, conflict_clause}
use Rattle.finder.specs.Invariant.{says_from, says, says_all, meets}

-- literals as numbers
pub lit_on : (w : Way) (v : ℕ) → lit w (on v) ≡ w v
lit_on w v = cond-true _ _ _ (eq-eqb ((2 * v) % 2) 0 (omega arith)) ∙ ap w (omega arith)

pub lit_off : (w : Way) (v : ℕ) → lit w (off v) ≡ not (w v)
lit_off w v = cond-false _ _ _ (ne_eqb ((2 * v + 1) % 2) 0 (λ e. omega (arith, e))) ∙ ap (λ x. not (w x)) (omega arith)

pub says_opened : (T : Table) (w : Way) (x : Choice) (a : ℕ) → opening T x.at ≡ some a → says T w x ≡ w (a + x.con)
says_opened T w x a e = ap (says_from w x.con) e

module _ (w : Way) where
  any_join : (xs ys : List ℕ) → any (lit w) (xs ++ ys) ≡ (any (lit w) xs || any (lit w) ys)
  any_join [] ys = refl
  any_join (x ∷ xs) ys = ap (λ b. lit w x || b) (any_join xs ys) ∙ sym (or_assoc (lit w x) (any (lit w) xs) (any (lit w) ys))

  pub all_met_join : (xs ys : List (List ℕ)) → all_met w (xs ++ ys) ≡ (all_met w xs && all_met w ys)
  all_met_join [] ys = refl
  all_met_join (x ∷ xs) ys = ap (λ b. any (lit w) x && b) (all_met_join xs ys) ∙ sym (and_assoc (any (lit w) x) (all_met w xs) (all_met w ys))

  some_case_is : (a m : ℕ) → any (lit w) (some_case a (suc m)) ≡ (any (lit w) (some_case a m) || w (a + m))
  some_case_is a m =
      any_join (some_case a m) (on (a + m) ∷ []) ∙ ap (λ b. any (lit w) (some_case a m) || b) (or-false (lit w (on (a + m))) ∙ lit_on w (a + m))

  -- at least one
  some_case_has : (a m : ℕ) → any (lit w) (some_case a m) ≡ true → (c : ℕ) × (c < m) × (w (a + c) ≡ true)
  some_case_has a zero e = absurd (false≢true e)
  some_case_has a (suc m) e = go (or_cases _ _ (sym (some_case_is a m) ∙ e)) (some_case_has a m)
    where
      go : (any (lit w) (some_case a m) ≡ true) ⊎ (w (a + m) ≡ true)
          → (any (lit w) (some_case a m) ≡ true → (c : ℕ) × (c < m) × (w (a + c) ≡ true)) → (c : ℕ) × (c < suc m) × (w (a + c) ≡ true)
      go (inl f) ih = let q = ih f in let l = q.1 in (q.0, omega (arith, l), q.2)
      go (inr f) ih = (m, omega arith, f)

  has_some_case : (a m c : ℕ) → c < m → w (a + c) ≡ true → any (lit w) (some_case a m) ≡ true
  has_some_case a zero c l e = absurd (omega (arith, l))
  has_some_case a (suc m) c l e = some_case_is a m ∙ go (cases_order c m) (has_some_case a m c)
    where
      go : (c ≡ m) ⊎ ((c < m) ⊎ (m < c)) → (c < m → w (a + c) ≡ true → any (lit w) (some_case a m) ≡ true)
          → (any (lit w) (some_case a m) || w (a + m)) ≡ true
      go (inl f) ih = or_right _ _ (subst (λ x. w (a + x) ≡ true) f e)
      go (inr (inl f)) ih = or_left _ _ (ih f e)
      go (inr (inr f)) ih = absurd (omega (arith, f, l))

  -- not both
  not_pair_is : (x y : ℕ) → any (lit w) (off x ∷ (off y ∷ [])) ≡ (not (w x) || not (w y))
  not_pair_is x y = λ i. lit_off w x i || (or-false (lit w (off y)) ∙ lit_off w y) i

  pair_not : (x y : Bool) → (not x || not y) ≡ true → x ≡ true → y ≡ true → ⊥
  pair_not true true e p q = false≢true e
  pair_not true false e p q = false≢true q
  pair_not false y e p q = false≢true p

  not_pair : (x y : Bool) → (x ≡ true → y ≡ true → ⊥) → (not x || not y) ≡ true
  not_pair true true f = absurd (f refl refl)
  not_pair true false f = refl
  not_pair false y f = refl

  not_with_is : (a c m : ℕ) → all_met w (not_with a c (suc m)) ≡ (all_met w (not_with a c m) && (not (w (a + m)) || not (w (a + c))))
  not_with_is a c m =
      all_met_join (not_with a c m) ((off (a + m) ∷ (off (a + c) ∷ [])) ∷ [])
      ∙ ap (λ b. all_met w (not_with a c m) && b) (and-true (any (lit w) (off (a + m) ∷ (off (a + c) ∷ []))) ∙ not_pair_is (a + m) (a + c))

  not_with_says : (a c m d : ℕ) → all_met w (not_with a c m) ≡ true → d < m → w (a + d) ≡ true → w (a + c) ≡ true → ⊥
  not_with_says a c zero d e l p q = absurd (omega (arith, l))
  not_with_says a c (suc m) d e l p q =
      let s = and_parts (all_met w (not_with a c m)) (not (w (a + m)) || not (w (a + c))) (sym (not_with_is a c m) ∙ e) in
      go s.1 (cases_order d m) (λ f. not_with_says a c m d s.0 f p q)
    where
      go : (not (w (a + m)) || not (w (a + c))) ≡ true → (d ≡ m) ⊎ ((d < m) ⊎ (m < d)) → (d < m → ⊥) → ⊥
      go s (inl f) ih = pair_not (w (a + m)) (w (a + c)) s (subst (λ x. w (a + x) ≡ true) f p) q
      go s (inr (inl f)) ih = ih f
      go s (inr (inr f)) ih = omega (arith, f, l)

  says_not_with : (a c m : ℕ) → ((d : ℕ) → d < m → w (a + d) ≡ true → w (a + c) ≡ true → ⊥) → all_met w (not_with a c m) ≡ true
  says_not_with a c zero f = refl
  says_not_with a c (suc m) f =
      not_with_is a c m
      ∙ and_from _ _ (says_not_with a c m (λ d l. f d (omega (arith, l)))) (not_pair (w (a + m)) (w (a + c)) (f m (omega arith)))

  not_two_says : (a m c d : ℕ) → all_met w (not_two a m) ≡ true → c < d → d < m → w (a + c) ≡ true → w (a + d) ≡ true → ⊥
  not_two_says a zero c d e k l p q = absurd (omega (arith, l))
  not_two_says a (suc m) c d e k l p q =
      let s = and_parts (all_met w (not_two a m)) (all_met w (not_with a m m)) (sym (all_met_join (not_two a m) (not_with a m m)) ∙ e) in
      go s.1 (cases_order d m) (λ f. not_two_says a m c d s.0 k f p q)
    where
      go : all_met w (not_with a m m) ≡ true → (d ≡ m) ⊎ ((d < m) ⊎ (m < d)) → (d < m → ⊥) → ⊥
      go s (inl f) ih = not_with_says a m m c s (omega (arith, f, k)) p (subst (λ x. w (a + x) ≡ true) f q)
      go s (inr (inl f)) ih = ih f
      go s (inr (inr f)) ih = omega (arith, f, l)

  says_not_two : (a m : ℕ) → ((c d : ℕ) → c < d → d < m → w (a + c) ≡ true → w (a + d) ≡ true → ⊥) → all_met w (not_two a m) ≡ true
  says_not_two a zero f = refl
  says_not_two a (suc m) f =
      all_met_join (not_two a m) (not_with a m m)
      ∙ and_from _ _ (says_not_two a m (λ c d k l. f c d k (omega (arith, l)))) (says_not_with a m m (λ d l p q. f d m l (omega arith) p q))

  pub clauses_one : (a m : ℕ) → all_met w (opening_clauses a m) ≡ true → OneCase w a m
  clauses_one a m e =
      let q = some_case_has a m (and_parts _ _ e).0 in
      record { case = q.0; is_case = q.1; chosen = q.2; only = λ d l s. go q.0 q.1 q.2 d l s (cases_order d q.0) }
    where
      go : (c : ℕ) → c < m → w (a + c) ≡ true → (d : ℕ) → d < m → w (a + d) ≡ true → (d ≡ c) ⊎ ((d < c) ⊎ (c < d)) → d ≡ c
      go c k p d l s (inl f) = f
      go c k p d l s (inr (inl f)) = absurd (not_two_says a m d c (and_parts _ _ e).1 f k s p)
      go c k p d l s (inr (inr f)) = absurd (not_two_says a m c d (and_parts _ _ e).1 f l p s)

  pub one_clauses : (a m : ℕ) → OneCase w a m → all_met w (opening_clauses a m) ≡ true
  one_clauses a m o =
      and_from _ _ (has_some_case a m o.case o.is_case o.chosen)
      (says_not_two a m
      (λ c d k l p q. let x = o.only c (omega (arith, k, l)) p in let y = o.only d l q in omega (arith, x, y, k)))

  not_both : (x y : Bool) → (not x || not y) ≡ not (x && y)
  not_both true y = refl
  not_both false y = refl

  some_differs_is : (T : Table) (xs : List Choice) → ((x : Choice) → x ∈ xs → (a : ℕ) × (opening T x.at ≡ some a))
      → any (lit w) (some_differs T xs) ≡ not (says_all T w xs)
  some_differs_is T [] f = refl
  some_differs_is T (x ∷ xs) f =
      let q = f x first in
      ap (λ o. any (lit w) (differs x.con o (some_differs T xs))) q.1
      ∙ ap (λ b. b || any (lit w) (some_differs T xs)) (lit_off w (q.0 + x.con))
      ∙ ap (λ b. not (w (q.0 + x.con)) || b) (some_differs_is T xs (λ y m. f y (later m)))
      ∙ not_both (w (q.0 + x.con)) (says_all T w xs)
      ∙ ap (λ b. not (b && says_all T w xs)) (sym (says_opened T w x q.0 q.1))

  pub clause_is : (T : Table) (k : Conflict) → ((x : Choice) → x ∈ k.choices → (a : ℕ) × (opening T x.at ≡ some a))
      → all_met w (conflict_clause T k ∷ []) ≡ not (meets T w k)
  clause_is T k f =
      and-true (any (lit w) (conflict_clause T k))
      ∙ ap (λ b. b || any (lit w) (some_differs T k.choices)) (lit_off w k.of)
      ∙ ap (λ b. not (w k.of) || b) (some_differs_is T k.choices f) ∙ not_both (w k.of) (says_all T w k.choices)

-- the entries of an opening
pub entries_join : (xs ys : List (List ℕ)) → entries (xs ++ ys) ≡ entries xs + entries ys
entries_join [] ys = omega arith
entries_join (x ∷ xs) ys = let ih = entries_join xs ys in omega (arith, ih)

some_case_length : (a m : ℕ) → length (some_case a m) ≡ m
some_case_length a zero = refl
some_case_length a (suc m) =
    let j = length-append (some_case a m) (on (a + m) ∷ []) in
    let ih = some_case_length a m in
    omega (arith, j, ih)

pub not_with_entries : (a c m : ℕ) → entries (not_with a c m) ≡ 3 * m
not_with_entries a c zero = refl
not_with_entries a c (suc m) =
    let j = entries_join (not_with a c m) ((off (a + m) ∷ (off (a + c) ∷ [])) ∷ []) in
    let ih = not_with_entries a c m in
    omega (arith, j, ih)

next_pairs : (m : ℕ) → suc m * (suc m - 1) ≡ m * (m - 1) + 2 * m
next_pairs zero = refl
next_pairs (suc k) =
    let a : suc (suc k) * (suc (suc k) - 1) ≡ suc (suc k) * suc k = ap (λ x. suc (suc k) * x) (omega arith) in
    let b : suc k * (suc k - 1) ≡ suc k * k = ap (λ x. suc k * x) (omega arith) in
    let c = suc-mul (suc k) (suc k) in
    let d = mul-suc (suc k) k in
    omega (arith, a, b, c, d)

-- twice the entries of the pairs are three for each ordered pair
not_two_entries : (a m : ℕ) → 2 * entries (not_two a m) ≡ 3 * (m * (m - 1))
not_two_entries a zero = refl
not_two_entries a (suc m) =
    let j = entries_join (not_two a m) (not_with a m m) in
    let w = not_with_entries a m m in
    let ih = not_two_entries a m in
    let s = next_pairs m in
    omega (arith, j, w, ih, s)

pub opening_takes : OpeningTakes
opening_takes a m =
    let l = some_case_length a m in
    let e = not_two_entries a m in
    omega (arith, l, e)
