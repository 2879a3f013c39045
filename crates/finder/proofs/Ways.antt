-- What a way decides. A way that gives each opened unknown one case passes the test of it, and decides by that case.
-- Assumes nothing.
use Rattle.std.proofs.Common.{◌≡◌, ℕ, zero, suc, ◌+◌, ◌<◌, Bool, true, false, cond, ◌⊎◌, List, [], ◌∷◌, refl, ap, ◌∙◌, subst, inl, inr, arith}
use mathlib.Core.Option.{Option, none, some, none-ne-some, some-injective}
use Rattle.std.proofs.lemmas.Bool.{both_ways, cases_order, and_from, eq-eqb}
use Rattle.syntax.specs.Problems.{Problem}
use Rattle.judging.specs.Paths.{Path}
use Rattle.judging.specs.Asked.{◌∈◌, first, later}
use Rattle.finder.specs.Tables.{Entry, Table, opening, width}
use Rattle.finder.specs.Ways.{Way, bit, how_many, one_of, decides_all, case_at, case_of, decided}
use Rattle.finder.specs.Conflicts.{Conflict}
use Rattle.finder.specs.Invariant.{Fine}
use Rattle.finder.specs.Claims.{NeverForeign}
use Rattle.finder.proofs.Tables.{opening_entry}

-- what the decision of a way says
pub case_at_says : (w : Way) (a m c : ℕ) → case_at w a m ≡ some c → (c < m) × (w (a + c) ≡ true)
case_at_says w a zero c e = absurd (none-ne-some c e)
case_at_says w a (suc m) c e = go (w (a + m)) refl e (case_at_says w a m c)
  where
    go : (b : Bool) → w (a + m) ≡ b → cond b (some m) (case_at w a m) ≡ some c
        → (case_at w a m ≡ some c → (c < m) × (w (a + c) ≡ true)) → (c < suc m) × (w (a + c) ≡ true)
    go true s f ih =
        let q = some-injective m c f in
        (omega (arith, q), subst (λ x. w (a + x) ≡ true) q s)
    go false s f ih =
        let q = ih f in
        let l = q.0 in
        (omega arith, q.1)

pub decided_says : (p : Problem) (T : Table) (w : Way) (u : Path) (c : ℕ) → decided p T w u ≡ some c
    → (a : ℕ) × (opening T u ≡ some a) × (c < width p u) × (w (a + c) ≡ true)
decided_says p T w u c e = go (opening T u) refl e
  where
    go : (o : Option ℕ) → opening T u ≡ o → case_of w (width p u) o ≡ some c
        → (a : ℕ) × (opening T u ≡ some a) × (c < width p u) × (w (a + c) ≡ true)
    go none s f = absurd (none-ne-some c f)
    go (some a) s f =
        let q = case_at_says w a (width p u) c f in
        (a, s, q.0, q.1)

-- the one case is the case decided
pub one_decided : (w : Way) (a m c : ℕ) → c < m → w (a + c) ≡ true → ((d : ℕ) → d < m → w (a + d) ≡ true → d ≡ c) → case_at w a m ≡ some c
one_decided w a zero c l e f = absurd (omega (arith, l))
one_decided w a (suc m) c l e f = go (w (a + m)) refl (λ k. one_decided w a m c k e (λ d q. f d (omega (arith, q))))
  where
    last : (c ≡ m) ⊎ ((c < m) ⊎ (m < c)) → w (a + m) ≡ false → c < m
    last (inl q) s = absurd (both_ways _ s (subst (λ x. w (a + x) ≡ true) q e))
    last (inr (inl q)) s = q
    last (inr (inr q)) s = absurd (omega (arith, q, l))

    go : (b : Bool) → w (a + m) ≡ b → (c < m → case_at w a m ≡ some c) → cond b (some m) (case_at w a m) ≡ some c
    go true s ih = ap some (f m (omega arith) s)
    go false s ih = ih (last (cases_order c m) s)

-- one case passes the test
none_counted : (w : Way) (a m : ℕ) → ((d : ℕ) → d < m → w (a + d) ≡ false) → how_many w a m ≡ 0
none_counted w a zero f = refl
none_counted w a (suc m) f =
    let off : bit (w (a + m)) ≡ 0 = ap bit (f m (omega arith)) in
    let ih = none_counted w a m (λ d l. f d (omega (arith, l))) in
    omega (arith, off, ih)

is_off : (w : Way) (a m c d : ℕ) → d < m → ((e : ℕ) → e < m → w (a + e) ≡ true → e ≡ c) → (d ≡ c → ⊥) → w (a + d) ≡ false
is_off w a m c d l f n = go (w (a + d)) refl
  where
    go : (b : Bool) → w (a + d) ≡ b → w (a + d) ≡ false
    go true e = absurd (n (f d l e))
    go false e = e

one_counted : (w : Way) (a m c : ℕ) → c < m → w (a + c) ≡ true → ((d : ℕ) → d < m → w (a + d) ≡ true → d ≡ c) → how_many w a m ≡ 1
one_counted w a zero c l e f = absurd (omega (arith, l))
one_counted w a (suc m) c l e f = go (cases_order c m) (λ k. one_counted w a m c k e (λ d q. f d (omega (arith, q))))
  where
    go : (c ≡ m) ⊎ ((c < m) ⊎ (m < c)) → (c < m → how_many w a m ≡ 1) → bit (w (a + m)) + how_many w a m ≡ 1
    go (inl q) ih =
        let this : bit (w (a + m)) ≡ 1 = ap bit (subst (λ x. w (a + x) ≡ true) q e) in
        let rest = none_counted w a m (λ d k. is_off w a (suc m) c d (omega (arith, k)) f (λ s. omega (arith, s, k, q))) in
        omega (arith, this, rest)
    go (inr (inl q)) ih =
        let this : bit (w (a + m)) ≡ 0 =
        ap bit (is_off w a (suc m) c m (omega arith) f (λ s. omega (arith, s, q))) in
        let rest = ih q in
        omega (arith, this, rest)
    go (inr (inr q)) ih = absurd (omega (arith, q, l))

all_decided : (p : Problem) (w : Way) (X : Table) → ((x : Entry) → x ∈ X → one_of p w x.path x.first ≡ true) → decides_all p w X ≡ true
all_decided p w [] f = refl
all_decided p w (x ∷ X) f = and_from _ _ (f x first) (all_decided p w X (λ y m. f y (later m)))

pub never_foreign : NeverForeign
never_foreign p T R w distinct fine = all_decided p w T (λ x m. go x (opening_entry T x distinct m) x.first refl)
  where
    go : (x : Entry) → opening T x.path ≡ x.first → (o : Option ℕ) → x.first ≡ o → one_of p w x.path x.first ≡ true
    go x e none f = ap (one_of p w x.path) f
    go x e (some a) f =
        let q = fine.one x.path a (e ∙ f) in
        ap (one_of p w x.path) f ∙ eq-eqb (how_many w a (width p x.path)) 1 (one_counted w a (width p x.path) q.case q.is_case q.chosen q.only)

-- the one case of an opened unknown is what is decided
pub opened_decided : (p : Problem) (T : Table) (R : List Conflict) (w : Way) → Fine p T R w → (u : Path) (a : ℕ) → opening T u ≡ some a
    → (c : ℕ) × (decided p T w u ≡ some c) × (c < width p u) × (w (a + c) ≡ true)
opened_decided p T R w fine u a e =
    let o = fine.one u a e in (
      o.case,
      ap (case_of w (width p u)) e ∙ one_decided w a (width p u) o.case o.is_case o.chosen o.only,
      o.is_case,
      o.chosen,
    )
