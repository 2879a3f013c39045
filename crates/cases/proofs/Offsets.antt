-- Where children begin: by one constructor more at a time, and never past the table of which they are.
use Rattle.std.proofs.Common.{◌≡◌, ℕ, zero, suc, ◌+◌, ◌<◌, ◌≤◌, ◌⊎◌, List, [], ◌∷◌, length, get_or, refl, inl, inr, add-one, arith}
use mathlib.Core.Option.{some}
use Rattle.syntax.specs.Problems.{Problem}
use Rattle.finder.specs.Tables.{cases_at, width, arity, Table, opening}
use Rattle.places.specs.Places.{at, offset, Placed}

pub none_before : (cs : List (List ℕ)) → offset cs 0 ≡ 0
none_before [] = refl
none_before (ts ∷ cs) = refl

pub one_more : (cs : List (List ℕ)) (c : ℕ) → offset cs (c + 1) ≡ offset cs c + length (get_or cs c [])
one_more cs c = rw add-one (go cs c)
  where
    go : (cs : List (List ℕ)) (c : ℕ) → offset cs (suc c) ≡ offset cs c + length (get_or cs c [])
    go [] c = refl
    go (ts ∷ cs) zero =
        let z = none_before cs in
        omega (arith, z)
    go (ts ∷ cs) (suc c) =
        let ih = go cs c in
        omega (arith, ih)

-- no children stand before those of c, or a last one does
last_before : (cs : List (List ℕ)) (c : ℕ)
    → (offset cs c ≡ 0) ⊎ ((d j : ℕ) × (d < c) × (j < length (get_or cs d [])) × (offset cs c ≡ suc (offset cs d + j)))
last_before [] c = inl refl
last_before (ts ∷ cs) zero = inl refl
last_before (ts ∷ cs) (suc c) = go ts (last_before cs c)
  where
    go : (ts : List ℕ) → (offset cs c ≡ 0) ⊎ ((d j : ℕ) × (d < c) × (j < length (get_or cs d [])) × (offset cs c ≡ suc (offset cs d + j)))
        → (offset (ts ∷ cs) (suc c) ≡ 0)
        ⊎ ((d j : ℕ) × (d < suc c) × (j < length (get_or (ts ∷ cs) d [])) × (offset (ts ∷ cs) (suc c) ≡ suc (offset (ts ∷ cs) d + j)))
    go ts (inr q) =
        let l = q.2 in
        let e = q.4 in
        inr (suc q.0, q.1, omega (arith, l), q.3, omega (arith, e))
    go [] (inl e) = inl (omega (arith, e))
    go (t ∷ ts) (inl e) = inr (0, length ts, omega arith, omega arith, omega (arith, e))

-- the children of an opened unknown begin within 16 bits, if the table has no more than 512 unknowns
pub begins_low : (p : Problem) (T : Table) (kids : ℕ → ℕ) (i a c : ℕ) → Placed p T kids → length T ≤ 512 → i < length T
    → opening T (at T i) ≡ some a → c < width p (at T i) → kids i ≤ 65535 → kids i + offset (cases_at p (at T i)) c ≤ 65535
begins_low p T kids i a c pl few l e k low = go (last_before (cases_at p (at T i)) c)
  where
    go : (offset (cases_at p (at T i)) c ≡ 0)
        ⊎ ((d j : ℕ) × (d < c) × (j < arity p (at T i) d) × (offset (cases_at p (at T i)) c ≡ suc (offset (cases_at p (at T i)) d + j)))
        → kids i + offset (cases_at p (at T i)) c ≤ 65535
    go (inl z) = omega (arith, z, low)
    go (inr q) =
        let below = q.2 in
        let is = q.4 in
        let inside = (pl.kids_placed i a q.0 q.1 l e (omega (arith, below, k)) q.3).0 in
        omega (arith, is, inside, few)
