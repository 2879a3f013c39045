-- The next record of a kind, and lists of types as bytes. Assumes nothing.
use Rattle.std.specs.Prelude.{◌≡◌, ℕ, zero, suc, ◌+◌, ◌≤◌, cond, ◌&&◌, List, [], ◌∷◌, length, take, drop, Some, None, Ok, Err, Option, Result, nat_le}
use Rattle.syntax.specs.declared.faults.Fault.{Fault}
use Rattle.syntax.specs.declared.faults.Reason.TheVariants.{BadCount}
use Rattle.syntax.specs.Faults.{fault}
use Rattle.records.specs.Reading.{Read, and_then, byte_of, starts}

-- a count within its limits
abbrev pub count_of : (low high m : ℕ) → List ℕ → ℕ → Result (Read ℕ) Fault
count_of low high m bs p = and_then (byte_of m bs p) (λ r. cond (nat_le low r.value && nat_le r.value high) (Ok r) (Err (fault BadCount p)))

-- The next record with the mark a b, or none where that mark does not stand. With room for no more, it is one too many, at its mark.
abbrev pub next : {A : Type 0} → (ℕ → List ℕ → ℕ → Result (Read A) Fault) → (a b room : ℕ) → List ℕ → ℕ → Result (Option (Read A)) Fault
next one a b zero bs p = cond (starts a b bs) (Err (fault BadCount p)) (Ok None)
next one a b (suc n) bs p = cond (starts a b bs) (and_then (one p (drop 2 bs) (p + 2)) (λ r. Ok (Some r))) (Ok None)

-- the first n lists in the bytes, each led by its length
abbrev pub lists_in : ℕ → List ℕ → List (List ℕ)
lists_in zero bs = []
lists_in (suc n) [] = []
lists_in (suc n) (k ∷ bs) = take k bs ∷ lists_in n (drop k bs)

-- the bytes are n lists of at most six types, each led by its length, and nothing more
abbrev pub Lists : ℕ → List ℕ → Type 0
Lists zero bs = bs ≡ []
Lists (suc n) [] = ⊥
Lists (suc n) (k ∷ bs) = (k ≤ 6) × (k ≤ length bs) × Lists n (drop k bs)
