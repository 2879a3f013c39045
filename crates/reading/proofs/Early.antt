-- A refusal rests on the bytes up to its place. Assumes nothing.
use Rattle.std.proofs.Common.{◌≡◌, ℕ, ◌+◌, ◌≤◌, Bool, true, false, cond, List, [], ◌∷◌, ◌++◌, length, Ok, Err, Result, ap, arith}
use Rattle.syntax.specs.Terms.{Terms}
use Rattle.syntax.specs.Typing.{Sig}
use Rattle.reading.specs.Reading.{Item, allowed, asked, made, reads}

-- the place in a refusal
abbrev place_in : Result Terms ℕ → ℕ
place_in (Ok ts) = 0
place_in (Err p) = p

of_made : (i : Item) (b k p : ℕ) (r : Result Terms ℕ) → made i b k r ≡ Err p → r ≡ Err p
of_made i b k p (Ok ts) e = absurd (let z : ◌≡◌ {A = ℕ} 0 1 = cc in omega arith)
of_made i b k p (Err q) e = e

-- a refusal's place is none before the first byte, nor past the end
pub between : (bs : List ℕ) (sig : Sig) (is : List Item) (q p : ℕ) → reads sig is bs q ≡ Err p → (q ≤ p) × (p ≤ q + length bs)
between [] sig [] q p e = absurd (let z : ◌≡◌ {A = ℕ} 0 1 = cc in omega arith)
between [] sig (i ∷ is) q p e = let d = ap place_in e in (omega arith, omega arith)
between (b ∷ bs) sig [] q p e = let d = ap place_in e in (omega arith, omega arith)
between (b ∷ bs) sig (i ∷ is) q p e = go (allowed sig i b) (between bs sig (asked sig i b ++ is) (q + 1) p) e
  where
    go : (t : Bool) → (reads sig (asked sig i b ++ is) bs (q + 1) ≡ Err p → (q + 1 ≤ p) × (p ≤ q + 1 + length bs))
        → cond t (made i b (length (asked sig i b)) (reads sig (asked sig i b ++ is) bs (q + 1))) (Err q) ≡ Err p → (q ≤ p) × (p ≤ q + length (b ∷ bs))
    go true ih e = let r = ih (of_made i b (length (asked sig i b)) p _ e) in let a = r.0 in let c = r.1 in (omega arith, omega arith)
    go false ih e = let d = ap place_in e in (omega arith, omega arith)

pub early : (xs : List ℕ) (sig : Sig) (is : List Item) (q p b : ℕ) (ys zs : List ℕ) → p ≡ q + length xs
    → reads sig is (xs ++ (b ∷ ys)) q ≡ Err p → reads sig is (xs ++ (b ∷ zs)) q ≡ Err p
early [] sig [] q p b ys zs h e = e
early [] sig (i ∷ is) q p b ys zs h e = go (allowed sig i b) e
  where
    go : (t : Bool) → cond t (made i b (length (asked sig i b)) (reads sig (asked sig i b ++ is) ys (q + 1))) (Err q) ≡ Err p
        → cond t (made i b (length (asked sig i b)) (reads sig (asked sig i b ++ is) zs (q + 1))) (Err q) ≡ Err p
    go true e = let r = between ys sig (asked sig i b ++ is) (q + 1) p (of_made i b (length (asked sig i b)) p _ e) in let a = r.0 in absurd (omega arith)
    go false e = e
early (x ∷ xs) sig [] q p b ys zs h e = e
early (x ∷ xs) sig (i ∷ is) q p b ys zs h e = go (allowed sig i x) (early xs sig (asked sig i x ++ is) (q + 1) p b ys zs (omega arith)) e
  where
    go : (t : Bool) → (reads sig (asked sig i x ++ is) (xs ++ (b ∷ ys)) (q + 1) ≡ Err p → reads sig (asked sig i x ++ is) (xs ++ (b ∷ zs)) (q + 1) ≡ Err p)
        → cond t (made i x (length (asked sig i x)) (reads sig (asked sig i x ++ is) (xs ++ (b ∷ ys)) (q + 1))) (Err q) ≡ Err p
        → cond t (made i x (length (asked sig i x)) (reads sig (asked sig i x ++ is) (xs ++ (b ∷ zs)) (q + 1))) (Err q) ≡ Err p
    go true ih e = ap (made i x (length (asked sig i x))) (ih (of_made i x (length (asked sig i x)) p _ e))
    go false ih e = e
