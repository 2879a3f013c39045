-- Clauses of allotted literals are refused only for want of entries. Assumes nothing.
use Rattle.std.proofs.Common.{◌≡◌, ℕ, ◌+◌, ◌*◌, ◌<◌, ◌≤◌, true, ltb, ◌⊎◌, List, [], ◌∷◌, length, refl, ◌∙◌, inl, inr, arith}
use Rattle.std.proofs.lemmas.Bool.{and_parts, and_from, cases_lt, lt-ltb, ltb-true, le-leb, lt-leb, cond-true, cond-false}
use Rattle.chooser.specs.Ways.{allotted}
use Rattle.chooser.specs.Meaning.{Meaning}
use Rattle.chooser.specs.Steps.{add_refusal}
use Rattle.chooser.specs.Faults.{fault_number}
use Rattle.chooser.specs.declared.Fault.{Fault}
use Rattle.chooser.specs.declared.Fault.TheVariants.{NoVariable, Unallotted, NoEntries, WrongLength}

pub allotted_one : (v l : ℕ) → l < 2 * v → allotted v (l ∷ []) ≡ true
allotted_one v l h = and_from _ _ (lt-ltb l (2 * v) h) refl

pub allotted_cons : (v l : ℕ) (ls : List ℕ) → l < 2 * v → allotted v ls ≡ true → allotted v (l ∷ ls) ≡ true
allotted_cons v l ls h e = and_from _ _ (lt-ltb l (2 * v) h) e

pub allotted_wide : (v w : ℕ) (ls : List ℕ) → v ≤ w → allotted v ls ≡ true → allotted w ls ≡ true
allotted_wide v w [] h e = refl
allotted_wide v w (l ∷ ls) h e =
    let q = and_parts (ltb l (2 * v)) (allotted v ls) e in
    let k = ltb-true l (2 * v) q.0 in
    allotted_cons w l ls (omega (arith, h, k)) (allotted_wide v w ls h q.1)

-- every fault has a number
pub no_fault : (e : Fault) → fault_number e ≡ 0 → ⊥
no_fault NoVariable h = omega (arith, h)
no_fault Unallotted h = omega (arith, h)
no_fault NoEntries h = omega (arith, h)
no_fault WrongLength h = omega (arith, h)

pub not_refused : (M : Meaning) (ls : List ℕ) (e : Fault) → fault_number e ≡ add_refusal M ls → allotted M.count ls ≡ true
    → length ls + 1 ≤ M.left → ⊥
not_refused M ls e n named fits = no_fault e (n ∙ cond-true _ _ _ named ∙ cond-true _ _ _ (le-leb (length ls + 1) M.left fits))

pub too_few : (M : Meaning) (ls : List ℕ) (e : Fault) → fault_number e ≡ add_refusal M ls → allotted M.count ls ≡ true
    → (M.left < length ls + 1) × (fault_number e ≡ fault_number NoEntries)
too_few M ls e n named = go (cases_lt M.left (length ls + 1))
  where
    go : (M.left < length ls + 1) ⊎ (length ls + 1 ≤ M.left) → (M.left < length ls + 1) × (fault_number e ≡ fault_number NoEntries)
    go (inl l) = (l, n ∙ cond-true _ _ _ named ∙ cond-false _ _ _ (lt-leb (length ls + 1) M.left l))
    go (inr l) = absurd (not_refused M ls e n named l)
