-- Bytes at a place and the bytes from there on; what a reading that succeeds has seen, and what lets it succeed.
use Rattle.std.proofs.Common.{◌≡◌, ℕ, zero, suc, ◌+◌, ◌<◌, Bool, true, false, cond, eqb, ltb, ◌⊎◌, List, [], ◌∷◌, length, get_or, drop, Some, None, Ok, Err, Option, Result, sym, refl, ap, ◌∙◌, subst, inl, inr, arith}
use Rattle.std.proofs.lemmas.Bool.{ltb-true, lt-ltb, eqb-true, eq-eqb}
use Rattle.syntax.specs.declared.faults.Fault.{Fault}
use Rattle.syntax.specs.declared.faults.Reason.TheVariants.{PastEnd, BadTerm}
use Rattle.syntax.specs.Faults.{fault}
use Rattle.syntax.specs.Typing.{Sig, constructors}
use Rattle.records.proofs.Results.{never_ok}
use Rattle.model.specs.Reading.{there, right, top_of}
use Rattle.model.proofs.Roots.{first}

pub cond_ok : {A : Type 0} (b : Bool) (r : Result A Fault) (e : Fault) (y : A) → cond b r (Err e) ≡ Ok y → (b ≡ true) × (r ≡ Ok y)
cond_ok true r e y h = (refl, h)
cond_ok false r e y h = never_ok h

pub was_there : {A : Type 0} (bs : List ℕ) (mark p : ℕ) (r : Result A Fault) (y : A) → there bs mark p r ≡ Ok y → (p < length bs) × (r ≡ Ok y)
was_there bs mark p r y h =
    let c = cond_ok (ltb p (length bs)) r (fault PastEnd mark) y h in (ltb-true p (length bs) c.0, c.1)

pub is_there : {A : Type 0} (bs : List ℕ) (mark p : ℕ) (r : Result A Fault) → p < length bs → there bs mark p r ≡ r
is_there bs mark p r h = ap (λ (b : Bool). cond b r (Err (fault PastEnd mark))) (lt-ltb p (length bs) h)

pub is_right : {A : Type 0} (p : ℕ) (ok : Bool) (r : Result A Fault) → ok ≡ true → right p ok r ≡ r
is_right p ok r h = ap (λ (b : Bool). cond b r (Err (fault BadTerm p))) h

shift : (p : ℕ) → suc p + 1 ≡ suc (p + 1)
shift p = omega arith

-- the byte at p is b, and these are the bytes after it
pub at_byte : (bs : List ℕ) (p b : ℕ) (rest : List ℕ) → drop p bs ≡ b ∷ rest → (p < length bs) × (get_or bs p 0 ≡ b) × (drop (p + 1) bs ≡ rest)
at_byte [] zero b rest h = let z = ap length h in absurd (omega arith)
at_byte [] (suc p) b rest h = let z = ap length h in absurd (omega arith)
at_byte (x ∷ bs) zero b rest h =
    let byte : x ≡ b = cc in
    let after : bs ≡ rest = cc in
    (omega arith, byte, after)
at_byte (x ∷ bs) (suc p) b rest h =
    let r = at_byte bs p b rest h in
    (omega arith, r.1, ap (λ i. drop i (x ∷ bs)) (shift p) ∙ r.2)

pub three : (bs : List ℕ) (p : ℕ) → p + 2 < length bs
    → drop p bs ≡ get_or bs p 0 ∷ (get_or bs (p + 1) 0 ∷ (get_or bs (p + 2) 0 ∷ drop (p + 3) bs))
three bs p h =
    let two : p + 1 + 1 ≡ p + 2 = omega arith in
    let last : p + 2 + 1 ≡ p + 3 = omega arith in
    first bs p (omega arith)
    ∙ ap (λ xs. get_or bs p 0 ∷ xs) (first bs (p + 1) (omega arith))
    ∙ ap (λ i. get_or bs p 0 ∷ (get_or bs (p + 1) 0 ∷ drop i bs)) two
    ∙ ap (λ xs. get_or bs p 0 ∷ (get_or bs (p + 1) 0 ∷ xs)) (first bs (p + 2) h)
    ∙ ap (λ i. get_or bs p 0 ∷ (get_or bs (p + 1) 0 ∷ (get_or bs (p + 2) 0 ∷ drop i bs))) last

open_or : (b : Bool) (r : Result (Option ℕ) Fault) (o : Option ℕ) → cond b (Ok None) r ≡ Ok o → ((b ≡ true) × (o ≡ None)) ⊎ (r ≡ Ok o)
open_or true r o h = inl (refl, cc)
open_or false r o h = inr h

some_is : (c : ℕ) (o : Option ℕ) → ◌≡◌ {A = Result (Option ℕ) Fault} (Ok (Some c)) (Ok o) → o ≡ Some c
some_is c o h = cc

module _ (sig : Sig) (bs : List ℕ) (mark t p : ℕ) where
  -- what the top of a value was read from
  abbrev pub TopAt : Option ℕ → Type 0
  TopAt None = drop p bs ≡ 8 ∷ drop (p + 1) bs
  TopAt (Some c) = (c < constructors sig t) × (p + 2 < length bs) × (drop p bs ≡ 2 ∷ (t ∷ (c ∷ drop (p + 3) bs)))

  abbrev last_byte : Result (Option ℕ) Fault
  last_byte = right (p + 2) (ltb (get_or bs (p + 2) 0) (constructors sig t)) (Ok (Some (get_or bs (p + 2) 0)))

  abbrev own_type : Result (Option ℕ) Fault
  own_type = right (p + 1) (eqb (get_or bs (p + 1) 0) t) (there bs mark (p + 2) last_byte)

  abbrev tagged : Result (Option ℕ) Fault
  tagged = right p (eqb (get_or bs p 0) 2) (there bs mark (p + 1) own_type)

  pub top_sound : (o : Option ℕ) → top_of sig bs mark t p ≡ Ok o → TopAt o
  top_sound o h =
      let one = was_there bs mark p (cond (eqb (get_or bs p 0) 8) (Ok None) tagged) o h in
      elim (open_or (eqb (get_or bs p 0) 8) tagged o one.1) [
        | inl q ↦
            subst TopAt (sym q.1) (first bs p one.0 ∙ ap (λ b. b ∷ drop (p + 1) bs) (eqb-true (get_or bs p 0) 8 q.0))
        | inr q ↦
            let two = cond_ok (eqb (get_or bs p 0) 2) (there bs mark (p + 1) own_type) (fault BadTerm p) o q in
            let three-at = was_there bs mark (p + 1) own_type o two.1 in
            let four = cond_ok (eqb (get_or bs (p + 1) 0) t) (there bs mark (p + 2) last_byte) (fault BadTerm (p + 1)) o three-at.1 in
            let five = was_there bs mark (p + 2) last_byte o four.1 in
            let six = cond_ok (ltb (get_or bs (p + 2) 0) (constructors sig t)) (Ok (Some (get_or bs (p + 2) 0))) (fault BadTerm (p + 2)) o five.1 in
            subst TopAt (sym (some_is (get_or bs (p + 2) 0) o six.1)) (
              ltb-true (get_or bs (p + 2) 0) (constructors sig t) six.0,
              five.0,
              three bs p five.0
                  ∙ ap (λ b. b ∷ (get_or bs (p + 1) 0 ∷ (get_or bs (p + 2) 0 ∷ drop (p + 3) bs))) (eqb-true (get_or bs p 0) 2 two.0)
                  ∙ ap (λ b. 2 ∷ (b ∷ (get_or bs (p + 2) 0 ∷ drop (p + 3) bs))) (eqb-true (get_or bs (p + 1) 0) t four.0),
            )
      ]

  pub top_open : (rest : List ℕ) → drop p bs ≡ 8 ∷ rest → top_of sig bs mark t p ≡ Ok None
  top_open rest h =
      let a = at_byte bs p 8 rest h in
      is_there bs mark p (cond (eqb (get_or bs p 0) 8) (Ok None) tagged) a.0
      ∙ ap (λ (b : Bool). cond b (Ok None) tagged) (eq-eqb (get_or bs p 0) 8 a.1)

  pub top_built : (c : ℕ) (rest : List ℕ) → c < constructors sig t → drop p bs ≡ 2 ∷ (t ∷ (c ∷ rest)) → top_of sig bs mark t p ≡ Ok (Some c)
  top_built c rest lt h =
      let a = at_byte bs p 2 (t ∷ (c ∷ rest)) h in
      let b = at_byte bs (p + 1) t (c ∷ rest) a.2 in
      let plus : p + 1 + 1 ≡ p + 2 = omega arith in
      let d = at_byte bs (p + 2) c rest (ap (λ i. drop i bs) (sym plus) ∙ b.2) in
      is_there bs mark p (cond (eqb (get_or bs p 0) 8) (Ok None) tagged) a.0
      ∙ ap (λ (x : ℕ). cond (eqb x 8) (Ok None) tagged) a.1
      ∙ is_right p (eqb (get_or bs p 0) 2) (there bs mark (p + 1) own_type) (eq-eqb (get_or bs p 0) 2 a.1)
      ∙ is_there bs mark (p + 1) own_type b.0
      ∙ is_right (p + 1) (eqb (get_or bs (p + 1) 0) t) (there bs mark (p + 2) last_byte) (eq-eqb (get_or bs (p + 1) 0) t b.1)
      ∙ is_there bs mark (p + 2) last_byte d.0
      ∙ ap (λ (x : ℕ). right (p + 2) (ltb x (constructors sig t)) (Ok (Some x))) d.1
      ∙ is_right (p + 2) (ltb c (constructors sig t)) (Ok (Some c)) (lt-ltb c (constructors sig t) lt)
