-- The only case, one variable at a time: no case so far, or one; with a second there is not only one, whatever follows.
use Rattle.std.proofs.Common.{◌≡◌, ℕ, zero, suc, ◌+◌, ◌<◌, ◌≤◌, ◌⊎◌, Bool, true, false, cond, Some, None, Option, refl, sym, ap, ◌∙◌, subst, inl, inr, add-one, arith}
use mathlib.Core.Option.{none, some, none-ne-some}
use Rattle.std.specs.Option.{is_some}
use Rattle.std.proofs.lemmas.Bool.{cases_lt, false≢true}
use Rattle.finder.specs.Ways.{Way, bit, how_many, case_at}

abbrev pub SoFar : Way → ℕ → ℕ → Option ℕ → Type 0
SoFar w a k None = how_many w a k ≡ 0
SoFar w a k (Some c) = (how_many w a k ≡ 1) × (case_at w a k ≡ some c)

pub first_one : (w : Way) (a k : ℕ) → w (a + k) ≡ true → how_many w a k ≡ 0 → SoFar w a (k + 1) (Some k)
first_one w a k e z =
    let this : bit (w (a + k)) ≡ 1 = ap bit e in
    rw add-one (omega (arith, this, z), ap (λ b. cond b (some k) (case_at w a k)) e)

pub one_off : (w : Way) (a k : ℕ) (o : Option ℕ) → w (a + k) ≡ false → SoFar w a k o → SoFar w a (k + 1) o
one_off w a k None e z =
    let this : bit (w (a + k)) ≡ 0 = ap bit e in
    rw add-one (omega (arith, this, z))
one_off w a k (Some c) e s =
    let this : bit (w (a + k)) ≡ 0 = ap bit e in
    let z = s.0 in
    rw add-one (omega (arith, this, z), ap (λ b. cond b (some k) (case_at w a k)) e ∙ s.1)

-- more variables, no fewer cases
counts_on : (w : Way) (a k m : ℕ) → k ≤ m → how_many w a k ≤ how_many w a m
counts_on w a k zero l = subst (λ n. how_many w a k ≤ how_many w a n) e (omega arith)
  where
    e : k ≡ 0
    e = omega (arith, l)
counts_on w a k (suc m) l = go (cases_lt k (suc m)) (λ e. counts_on w a k m e)
  where
    go : (k < suc m) ⊎ (suc m ≤ k) → (k ≤ m → how_many w a k ≤ how_many w a m) → how_many w a k ≤ how_many w a (suc m)
    go (inl below) ih =
        let less = ih (omega (arith, below)) in
        omega (arith, less)
    go (inr above) ih =
        let e : k ≡ suc m = omega (arith, above, l) in
        subst (λ n. how_many w a k ≤ how_many w a n) e (omega arith)

pub two_ones : (w : Way) (a k m v : ℕ) (r : Bool) (o : Option ℕ) → v ≡ a + k → r ≡ w v → r ≡ true → SoFar w a k o → is_some o ≡ true → k < m
    → how_many w a m ≡ 1 → ⊥
two_ones w a k m v r None at_ is one s some_one l f = false≢true some_one
two_ones w a k m v r (Some c) at_ is one s some_one l f =
    let this : bit (w (a + k)) ≡ 1 = ap bit (ap w (sym at_) ∙ sym is ∙ one) in
    let on = counts_on w a (suc k) m (omega (arith, l)) in
    let before = s.0 in
    absurd (omega (arith, this, before, on, f))

-- a way with a case among the variables decides one
pub undecided_none : (w : Way) (a m : ℕ) → case_at w a m ≡ none → how_many w a m ≡ 0
undecided_none w a zero e = refl
undecided_none w a (suc m) e = go (w (a + m)) refl e (undecided_none w a m)
  where
    go : (b : Bool) → w (a + m) ≡ b → cond b (some m) (case_at w a m) ≡ none → (case_at w a m ≡ none → how_many w a m ≡ 0)
        → bit (w (a + m)) + how_many w a m ≡ 0
    go true s f ih = absurd (none-ne-some m (sym f))
    go false s f ih =
        let this : bit (w (a + m)) ≡ 0 = ap bit s in
        let rest = ih f in
        omega (arith, this, rest)
