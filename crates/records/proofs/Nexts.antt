-- The next record: its mark stands, and then what its kind reads. Assumes nothing.
use Rattle.std.proofs.Common.{◌≡◌, ℕ, zero, suc, ◌+◌, ◌<◌, ◌≤◌, true, false, eqb, List, [], ◌∷◌, ◌++◌, length, take, drop, sym, refl, ap, ◌∙◌, ⊎_elim, append_assoc, arith}
use Rattle.std.proofs.lemmas.List.{length-append, length-drop, drop-drop, take-append-drop, length-take-le}
use Rattle.std.proofs.lemmas.Bool.{true≢false, false≢true, and_parts, eqb-true, cases_lt}
use Rattle.syntax.specs.Problems.{concat, encode_list, encode_type, encode_part}
use Rattle.records.specs.Raw.{RawFunction, write_function}
use Rattle.records.specs.Reading.{read, byte_of, list_of, part_of, function_of, starts}
use Rattle.records.specs.Next.{lists_in, Lists}

-- a mark that stands is the first two bytes
pub starts_sound : (a b : ℕ) (xs : List ℕ) → starts a b xs ≡ true → xs ≡ a ∷ (b ∷ drop 2 xs)
starts_sound a b [] e = absurd (false≢true e)
starts_sound a b (x ∷ []) e = absurd (false≢true e)
starts_sound a b (x ∷ (y ∷ xs)) e =
    let p = and_parts (eqb x a) (eqb y b) e in
    ap (λ k. k ∷ (y ∷ xs)) (eqb-true x a p.0) ∙ ap (λ k. a ∷ (k ∷ xs)) (eqb-true y b p.1)

few_bytes : (a b : ℕ) (xs : List ℕ) → length xs < 2 → starts a b xs ≡ false
few_bytes a b [] l = refl
few_bytes a b (x ∷ []) l = refl
few_bytes a b (x ∷ (y ∷ xs)) l = absurd (omega arith)

module _ (bs : List ℕ) (at a b : ℕ) (e : starts a b (drop at bs) ≡ true) where
  pub starts_long : at + 2 ≤ length bs
  starts_long = ⊎_elim (λ (short : length bs < at + 2). absurd (true≢false (sym e ∙ few_bytes a b (drop at bs) (simp length-drop (omega arith))))) (λ h. h) (cases_lt (length bs) (at + 2))

  pub entered : drop at bs ≡ a ∷ (b ∷ drop (at + 2) bs)
  entered = starts_sound a b (drop at bs) e ∙ ap (λ k. a ∷ (b ∷ k)) (drop-drop 2 at bs)

-- lists in bytes that hold nothing else are these bytes
pub lists_long : (n : ℕ) (bs : List ℕ) → Lists n bs → length (lists_in n bs) ≡ n
lists_long zero bs h = refl
lists_long (suc n) [] h = absurd h
lists_long (suc n) (k ∷ bs) h = ap suc (lists_long n (drop k bs) h.2)

pub lists_back : (n : ℕ) (bs : List ℕ) → Lists n bs → concat encode_list (lists_in n bs) ≡ bs
lists_back zero bs h = sym h
lists_back (suc n) [] h = absurd h
lists_back (suc n) (k ∷ bs) h =
    ap (λ c. c ∷ (take k bs ++ concat encode_list (lists_in n (drop k bs)))) (length-take-le k bs h.1)
    ∙ ap (λ c. k ∷ (take k bs ++ c)) (lists_back n (drop k bs) h.2)
    ∙ ap (λ c. k ∷ c) (take-append-drop k bs)

pub type_written : (n : ℕ) (bs part rest : List ℕ) → Lists n part → bs ≡ 0x44 ∷ (0x54 ∷ (n ∷ (part ++ rest))) → bs ≡ encode_type (lists_in n part) ++ rest
type_written n bs part rest h e =
    e ∙ ap (λ k. 0x44 ∷ (0x54 ∷ (k ∷ (part ++ rest)))) (sym (lists_long n part h))
    ∙ ap (λ k. 0x44 ∷ (0x54 ∷ (length (lists_in n part) ∷ (k ++ rest)))) (sym (lists_back n part h))

pub function_from : {p₁ p₂ p₃ t : ℕ} {ps bs₁ bs₂ x bs₃ : List ℕ} (m : ℕ) (bs : List ℕ) (p : ℕ) →
    list_of m bs p ≡ read ps bs₁ p₁ → byte_of m bs₁ p₁ ≡ read t bs₂ p₂ → part_of m bs₂ p₂ ≡ read x bs₃ p₃ →
    function_of m bs p ≡ read (record { profile = record { params = ps; result = t }; body = x }) bs₃ p₃
function_from {p₁} {p₂} {p₃} {t} {ps} {bs₁} {bs₂} {x} {bs₃} m bs p e f g = cc

-- a function's bytes, and the place of its body among them
pub function_written : {bs bs₁ bs₂ : List ℕ} (ps : List ℕ) (t : ℕ) (x bs₃ : List ℕ) → bs ≡ 0x46 ∷ (0x4E ∷ bs₁) → bs₁ ≡ encode_list ps ++ (t ∷ bs₂) → bs₂ ≡ encode_part x ++ bs₃ →
    bs ≡ write_function (record { profile = record { params = ps; result = t }; body = x }) ++ bs₃
function_written ps t x bs₃ e f g =
    e ∙ ap (λ k. 0x46 ∷ (0x4E ∷ k)) (f ∙ ap (λ k. encode_list ps ++ (t ∷ k)) g)
    ∙ ap (λ k. 0x46 ∷ (0x4E ∷ k)) (sym (append_assoc (encode_list ps) (t ∷ encode_part x) bs₃))

pub function_long : (f : RawFunction) → length (write_function f) ≡ 6 + length f.profile.params + length f.body
function_long f =
    let long = length-append (encode_list f.profile.params) (f.profile.result ∷ encode_part f.body) in
    omega (arith, long)
