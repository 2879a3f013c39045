-- What a way meets that meets the switches and the denials. Assumes nothing.
use Rattle.std.proofs.Common.{◌≡◌, ℕ, zero, suc, ◌+◌, ◌<◌, Bool, true, false, cond, ◌&&◌, ltb, ◌⊎◌, List, [], ◌∷◌, ◌++◌, length, sym, refl, ap, ◌∙◌, subst, inl, inr, arith}
use mathlib.Core.Option.{Option, none, some}
use Rattle.std.proofs.Math.Bool.{and_assoc}
use Rattle.std.proofs.lemmas.Bool.{both_ways, and_parts, and_from, cases_order, not-true, not_from_false, cond-true, lt-ltb, ltb-true}
use Rattle.chooser.specs.Ways.{lit, every}
use Rattle.syntax.specs.Problems.{Problem}
use Rattle.judging.specs.Paths.{Path}
use Rattle.judging.specs.Asked.{◌∈◌, first, later}
use Rattle.finder.specs.Levels.{Measures, reach, fits}
use Rattle.finder.specs.Tables.{Entry, Table, paths, opening, width, Distinct}
use Rattle.finder.specs.Ways.{Way}
use Rattle.finder.specs.Clauses.{on, off}
use Rattle.finder.specs.Asking.{switches_on, switches, deep_cases, denials_at, denials, asked}
use Rattle.finder.proofs.Tables.{opening_entry, entry_of}
use Rattle.finder.proofs.Clauses.{lit_on, lit_off}

-- the switches of the goals in force are on
abbrev pub Switched : Problem → (ℕ → Bool) → Way → Type 0
Switched p force w = (g : ℕ) → g < length p.goals → force g ≡ true → w g ≡ true

-- of each opened unknown that fits n, the cases that reach beyond n are off
abbrev pub Denied : Problem → Measures → Table → ℕ → Way → Type 0
Denied p d T n w = (u : Path) (a c : ℕ) → opening T u ≡ some a → c < width p u → fits p d n u ≡ true → n < reach p d u c → w (a + c) ≡ false

-- lists of literals that all pass
module _ (f : ℕ → Bool) where
  pub every_join : (xs ys : List ℕ) → every f (xs ++ ys) ≡ (every f xs && every f ys)
  every_join [] ys = refl
  every_join (x ∷ xs) ys = ap (λ b. f x && b) (every_join xs ys) ∙ sym (and_assoc (f x) (every f xs) (every f ys))

  every_parts : (xs ys : List ℕ) → every f (xs ++ ys) ≡ true → (every f xs ≡ true) × (every f ys ≡ true)
  every_parts xs ys e = and_parts (every f xs) (every f ys) (sym (every_join xs ys) ∙ e)

  pub every_both : (xs ys : List ℕ) → every f xs ≡ true → every f ys ≡ true → every f (xs ++ ys) ≡ true
  every_both xs ys e h = every_join xs ys ∙ and_from _ _ e h

  -- one more literal at the end
  every_last : (xs : List ℕ) (l : ℕ) → every f (xs ++ (l ∷ [])) ≡ true → (every f xs ≡ true) × (f l ≡ true)
  every_last xs l e = let q = every_parts xs (l ∷ []) e in (q.0, (and_parts (f l) true q.1).0)

  pub last_every : (xs : List ℕ) (l : ℕ) → every f xs ≡ true → f l ≡ true → every f (xs ++ (l ∷ [])) ≡ true
  last_every xs l e h = every_both xs (l ∷ []) e (and_from (f l) true h refl)

module _ (w : Way) where
  -- the switches
  switches_met : (force : ℕ → Bool) (m : ℕ) → every (lit w) (switches_on force m) ≡ true → (g : ℕ) → g < m → force g ≡ true → w g ≡ true
  switches_met force zero e g l f = absurd (omega (arith, l))
  switches_met force (suc m) e g l f = go (force m) refl e (cases_order g m) (λ h k. switches_met force m h g k f)
    where
      go : (b : Bool) → force m ≡ b → every (lit w) (cond b (switches_on force m ++ (on m ∷ [])) (switches_on force m)) ≡ true
          → (g ≡ m) ⊎ ((g < m) ⊎ (m < g)) → (every (lit w) (switches_on force m) ≡ true → g < m → w g ≡ true) → w g ≡ true
      go true s h (inl q) ih = subst (λ x. w x ≡ true) (sym q) (sym (lit_on w m) ∙ (every_last (lit w) (switches_on force m) (on m) h).1)
      go true s h (inr (inl q)) ih = ih (every_last (lit w) (switches_on force m) (on m) h).0 q
      go true s h (inr (inr q)) ih = absurd (omega (arith, q, l))
      go false s h (inl q) ih = absurd (both_ways (force m) s (subst (λ x. force x ≡ true) q f))
      go false s h (inr (inl q)) ih = ih h q
      go false s h (inr (inr q)) ih = absurd (omega (arith, q, l))

  met_switches : (force : ℕ → Bool) (m : ℕ) → ((g : ℕ) → g < m → force g ≡ true → w g ≡ true) → every (lit w) (switches_on force m) ≡ true
  met_switches force zero f = refl
  met_switches force (suc m) f = go (force m) refl (met_switches force m (λ g l. f g (omega (arith, l))))
    where
      go : (b : Bool) → force m ≡ b → every (lit w) (switches_on force m) ≡ true
          → every (lit w) (cond b (switches_on force m ++ (on m ∷ [])) (switches_on force m)) ≡ true
      go true e ih = last_every (lit w) (switches_on force m) (on m) ih (lit_on w m ∙ f m (omega arith) e)
      go false e ih = ih

  pub switched : (p : Problem) (force : ℕ → Bool) → every (lit w) (switches p force) ≡ true → Switched p force w
  switched p force e = switches_met force (length p.goals) e

  pub switches_hold : (p : Problem) (force : ℕ → Bool) → Switched p force w → every (lit w) (switches p force) ≡ true
  switches_hold p force f = met_switches force (length p.goals) f

  -- the denials
  module _ (p : Problem) (d : Measures) (n : ℕ) where
    deep_met : (u : Path) (a m c : ℕ) → every (lit w) (deep_cases p d n u a m) ≡ true → c < m → n < reach p d u c → w (a + c) ≡ false
    deep_met u a zero c e l k = absurd (omega (arith, l))
    deep_met u a (suc m) c e l k = go (ltb n (reach p d u m)) refl e (cases_order c m) (λ h q. deep_met u a m c h q k)
      where
        go : (b : Bool) → ltb n (reach p d u m) ≡ b
            → every (lit w) (cond b (deep_cases p d n u a m ++ (off (a + m) ∷ [])) (deep_cases p d n u a m)) ≡ true
            → (c ≡ m) ⊎ ((c < m) ⊎ (m < c)) → (every (lit w) (deep_cases p d n u a m) ≡ true → c < m → w (a + c) ≡ false) → w (a + c) ≡ false
        go true s h (inl q) ih =
            subst (λ x. w (a + x) ≡ false) (sym q)
            (not-true _ (sym (lit_off w (a + m)) ∙ (every_last (lit w) (deep_cases p d n u a m) (off (a + m)) h).1))
        go true s h (inr (inl q)) ih = ih (every_last (lit w) (deep_cases p d n u a m) (off (a + m)) h).0 q
        go true s h (inr (inr q)) ih = absurd (omega (arith, q, l))
        go false s h (inl q) ih = absurd (both_ways _ s (lt-ltb _ _ (subst (λ x. n < reach p d u x) q k)))
        go false s h (inr (inl q)) ih = ih h q
        go false s h (inr (inr q)) ih = absurd (omega (arith, q, l))

    met_deep : (u : Path) (a m : ℕ) → ((c : ℕ) → c < m → n < reach p d u c → w (a + c) ≡ false) → every (lit w) (deep_cases p d n u a m) ≡ true
    met_deep u a zero f = refl
    met_deep u a (suc m) f = go (ltb n (reach p d u m)) refl (met_deep u a m (λ c l. f c (omega (arith, l))))
      where
        go : (b : Bool) → ltb n (reach p d u m) ≡ b → every (lit w) (deep_cases p d n u a m) ≡ true
            → every (lit w) (cond b (deep_cases p d n u a m ++ (off (a + m) ∷ [])) (deep_cases p d n u a m)) ≡ true
        go true s ih =
            last_every (lit w) (deep_cases p d n u a m) (off (a + m)) ih
            (lit_off w (a + m) ∙ not_from_false _ (f m (omega arith) (ltb-true _ _ s)))
        go false s ih = ih

    at_met : (u : Path) (a c : ℕ) → every (lit w) (denials_at p d n u (some a)) ≡ true → c < width p u → fits p d n u ≡ true
        → n < reach p d u c → w (a + c) ≡ false
    at_met u a c e l fit k = deep_met u a (width p u) c (subst (λ ls. every (lit w) ls ≡ true) (cond-true _ _ _ fit) e) l k

    met_at : (u : Path) (o : Option ℕ)
        → ((a c : ℕ) → o ≡ some a → c < width p u → fits p d n u ≡ true → n < reach p d u c → w (a + c) ≡ false)
        → every (lit w) (denials_at p d n u o) ≡ true
    met_at u none f = refl
    met_at u (some a) f = go (fits p d n u) refl
      where
        go : (b : Bool) → fits p d n u ≡ b → every (lit w) (cond b (deep_cases p d n u a (width p u)) []) ≡ true
        go true s = met_deep u a (width p u) (λ c l k. f a c refl l s k)
        go false s = refl

    in_denials : (T : Table) (x : Entry) → x ∈ T → every (lit w) (denials p d n T) ≡ true → every (lit w) (denials_at p d n x.path x.first) ≡ true
    in_denials [] x m e = elim m [ ]
    in_denials (y ∷ T) x first e = (every_parts (lit w) (denials_at p d n y.path y.first) (denials p d n T) e).0
    in_denials (y ∷ T) x (later m) e = in_denials T x m (every_parts (lit w) (denials_at p d n y.path y.first) (denials p d n T) e).1

    all_denials : (T : Table) → ((x : Entry) → x ∈ T → every (lit w) (denials_at p d n x.path x.first) ≡ true)
        → every (lit w) (denials p d n T) ≡ true
    all_denials [] f = refl
    all_denials (y ∷ T) f =
        every_both (lit w) (denials_at p d n y.path y.first) (denials p d n T) (f y first) (all_denials T (λ x m. f x (later m)))

    pub asked_denied : (force : ℕ → Bool) (T : Table) → every (lit w) (asked p d force n T) ≡ true → Denied p d T n w
    asked_denied force T e u a c o l fit k =
        at_met u a c (in_denials T _ (entry_of T u a o) (every_parts (lit w) (switches p force) (denials p d n T) e).1) l fit k

    pub asked_switched : (force : ℕ → Bool) (T : Table) → every (lit w) (asked p d force n T) ≡ true → every (lit w) (switches p force) ≡ true
    asked_switched force T e = (every_parts (lit w) (switches p force) (denials p d n T) e).0

    pub asked_holds : (force : ℕ → Bool) (T : Table) → Distinct (paths T) → Switched p force w → Denied p d T n w
        → every (lit w) (asked p d force n T) ≡ true
    asked_holds force T distinct sw den =
        every_both (lit w) (switches p force) (denials p d n T) (switches_hold p force sw)
        (all_denials T
        (λ x m. met_at x.path x.first (λ a c o l fit k. den x.path a c (opening_entry T x distinct m ∙ o) l fit k)))
