-- What was read is what the bytes write: each part of a record gives back the bytes in front of the rest. Assumes nothing.
use Rattle.std.proofs.Common.{◌≡◌, ℕ, ◌+◌, ◌*◌, ◌/◌, ◌%◌, ◌<◌, ◌≤◌, Bool, true, false, cond, ◌&&◌, leb, List, [], ◌∷◌, ◌++◌, length, take, drop, Ok, Err, Result, sym, refl, ap, ◌∙◌, subst, arith}
use Rattle.std.proofs.lemmas.List.{take-append-drop, length-take-le}
use Rattle.std.proofs.lemmas.Bool.{and_parts, leb-true}
use Rattle.syntax.specs.declared.faults.Fault.{Fault}
use Rattle.syntax.specs.declared.faults.Reason.TheVariants.{PastEnd, BadCount}
use Rattle.syntax.specs.Faults.{fault}
use Rattle.syntax.specs.Problems.{encode_list, encode_part}
use Rattle.records.specs.Raw.{Few}
use Rattle.records.specs.Next.{count_of}
use Rattle.records.specs.Reading.{Read, read, and_then, byte_of, bytes_of, list_of, part_of}

-- two answers that are equal were read alike
pub same_read : {A : Type 0} {r s : Read A} → ◌≡◌ {A = Result (Read A) Fault} (Ok r) (Ok s) → r ≡ s
same_read e = cc

pub byte_sound : {b q : ℕ} {rest : List ℕ} (m : ℕ) (bs : List ℕ) (p : ℕ) → byte_of m bs p ≡ read b rest q → (bs ≡ b ∷ rest) × (q ≡ p + 1)
byte_sound m [] p e = cc
byte_sound m (x ∷ bs) p e =
    let s = same_read e in
    (ap (λ r. r.value ∷ r.rest) s, sym (ap (λ r. r.at) s))

pub count_sound : {n q : ℕ} {rest : List ℕ} (low high m : ℕ) (bs : List ℕ) (p : ℕ) → count_of low high m bs p ≡ read n rest q → (byte_of m bs p ≡ read n rest q) × (low ≤ n) × (n ≤ high)
count_sound {n} {q} {rest} low high m bs p e = by (byte_of m bs p) e
  where
    test : (r : Read ℕ) (t : Bool) → (leb low r.value && leb r.value high) ≡ t → cond t (Ok r) (Err (fault BadCount p)) ≡ read n rest q →
        (Ok r ≡ read n rest q) × (low ≤ n) × (n ≤ high)
    test r false h e = cc
    test r true h e =
        let s = ap (λ z. z.value) (same_read e) in
        let both = and_parts (leb low r.value) (leb r.value high) h in
        (e, subst (λ k. low ≤ k) s (leb-true low r.value both.0), subst (λ k. k ≤ high) s (leb-true r.value high both.1))

    by : (d : Result (Read ℕ) Fault) → and_then d (λ r. cond (leb low r.value && leb r.value high) (Ok r) (Err (fault BadCount p))) ≡ read n rest q →
        (d ≡ read n rest q) × (low ≤ n) × (n ≤ high)
    by (Err f) e = cc
    by (Ok r) e = test r (leb low r.value && leb r.value high) refl e

pub bytes_sound : {x rest : List ℕ} {q : ℕ} (m n : ℕ) (bs : List ℕ) (p : ℕ) → bytes_of m n bs p ≡ read x rest q → (bs ≡ x ++ rest) × (length x ≡ n) × (q ≡ p + n)
bytes_sound {x} {rest} {q} m n bs p e = by (leb n (length bs)) refl e
  where
    by : (t : Bool) → leb n (length bs) ≡ t → cond t (read (take n bs) (drop n bs) (p + n)) (Err (fault PastEnd m)) ≡ read x rest q → (bs ≡ x ++ rest) × (length x ≡ n) × (q ≡ p + n)
    by false l e = cc
    by true l e =
        let s = same_read e in (
          sym (take-append-drop n bs) ∙ ap (λ r. r.value ++ r.rest) s,
          sym (ap (λ r. length r.value) s) ∙ length-take-le n bs (leb-true n (length bs) l),
          sym (ap (λ r. r.at) s),
        )

pub list_sound : {x rest : List ℕ} {q : ℕ} (m : ℕ) (bs : List ℕ) (p : ℕ) → list_of m bs p ≡ read x rest q → (bs ≡ encode_list x ++ rest) × Few x
list_sound m [] p e = cc
list_sound {x} {rest} {q} m (n ∷ bs) p e = by (leb n 6) refl e
  where
    by : (t : Bool) → leb n 6 ≡ t → cond t (bytes_of m n bs (p + 1)) (Err (fault BadCount p)) ≡ read x rest q → (n ∷ bs ≡ encode_list x ++ rest) × Few x
    by false l e = cc
    by true l e =
        let s = bytes_sound m n bs (p + 1) e in
        let few = leb-true n 6 l in
        let long = s.1 in
        (ap (λ k. n ∷ k) s.0 ∙ ap (λ k. k ∷ (x ++ rest)) (sym long), omega arith)

-- a part is written with its length in two bytes, if the second is a byte
pub part_from : {h l p₁ p₂ p₃ : ℕ} {bs₁ bs₂ x bs₃ : List ℕ} (m : ℕ) (bs : List ℕ) (p : ℕ) →
    byte_of m bs p ≡ read h bs₁ p₁ → byte_of m bs₁ p₁ ≡ read l bs₂ p₂ → l < 256 → bytes_of m (256 * h + l) bs₂ p₂ ≡ read x bs₃ p₃ →
    (part_of m bs p ≡ read x bs₃ p₃) × (bs ≡ encode_part x ++ bs₃)
part_from {h} {l} {p₁} {p₂} {p₃} {bs₁} {bs₂} {x} {bs₃} m bs p e f low g =
    let s = byte_sound m bs p e in
    let t = byte_sound m bs₁ p₁ f in
    let u = bytes_sound m (256 * h + l) bs₂ p₂ g in
    let whole : bs ≡ h ∷ (l ∷ bs₂) = s.0 ∙ ap (λ k. h ∷ k) t.0 in
    let place : p + 2 ≡ p₂ = omega (arith, s.1, t.1) in
    let long = u.1 in
    let high : h ≡ length x / 256 = omega arith in
    let rest : l ≡ length x % 256 = omega arith in (
      ap (λ k. part_of m k p) whole ∙ ap (λ k. bytes_of m (256 * h + l) bs₂ k) place ∙ g,
      whole ∙ ap (λ k. h ∷ (l ∷ k)) u.0 ∙ ap (λ k. k ∷ (l ∷ (x ++ bs₃))) high ∙ ap (λ k. (length x / 256) ∷ (k ∷ (x ++ bs₃))) rest,
    )
