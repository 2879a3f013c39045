-- Digits as they come, and the bytes of their pairs.
use Rattle.std.proofs.Common.{◌≡◌, ℕ, ◌+◌, ◌*◌, ◌%◌, ◌<◌, Bool, true, false, cond, is_some, get_or, List, [], ◌∷◌, ◌++◌, length, take, Option, Some, None, Result, Ok, Err, refl, ap, ◌∙◌, arith}
use Rattle.std.specs.Prelude.{◌&&◌, not}
use Rattle.std.specs.Char.{is_ascii_uppercase}
use Rattle.std.specs.List.{filter}
use Rattle.std.proofs.lemmas.List.{append_assoc, append-nil, length-append}
use Rattle.std.proofs.lemmas.List.Elements.{filter_more}
use Rattle.std.specs.Result.{result_unwrap_or}
use Rattle.hex.specs.Hex.{decode_pairs, digit_or_error, hex_digit_value, pair_value, ◌>>=◌}
use Rattle.hex.specs.declared.error.FromHexError.{FromHexError}
use Rattle.hex.proofs.Pairs.{cons_byte, decode_pairs-ok_pair}
use Rattle.hextext.specs.Digits.{digit_in, is_digit, Written}

-- what an `Ok` after `>>=` shows
bind_ok : {A B : Type 0} (r : Result A FromHexError) (f : A → Result B FromHexError) (y : B)
    → (r >>= f) ≡ Ok y → (x : A) × (r ≡ Ok x) × (f x ≡ Ok y)
bind_ok (Ok x) f y h = (x, refl, h)
bind_ok (Err e) f y h = cc h

-- two digits make a byte
one_byte : (i a b high low : ℕ) → hex_digit_value a ≡ Some high → hex_digit_value b ≡ Some low
    → decode_pairs i (a ∷ b ∷ []) ≡ Ok ((high * 16 + low) ∷ [])
unfolding decode_pairs
one_byte i a b high low ha hb =
    let pa = ap (digit_or_error a i) ha in
    let pb = ap (digit_or_error b (i + 1)) hb in
    let pair : pair_value a b i ≡ Ok (high * 16 + low) = rw (pa, pb) refl in
    decode_pairs-ok_pair i a b (high * 16 + low) [] pair

-- a pair behind others makes a byte behind theirs
byte_behind : (i : ℕ) (front bytes : List ℕ) (a b high low : ℕ) → length front % 2 ≡ 0 → decode_pairs i front ≡ Ok bytes
    → hex_digit_value a ≡ Some high → hex_digit_value b ≡ Some low
    → decode_pairs i (front ++ a ∷ b ∷ []) ≡ Ok (bytes ++ (high * 16 + low) ∷ [])
unfolding decode_pairs
byte_behind i [] bytes a b high low even e ha hb =
    let none : [] ≡ bytes = ap (λ (r : Result (List ℕ) FromHexError). result_unwrap_or r []) e in
    rw (← none) (one_byte i a b high low ha hb)
byte_behind i (x ∷ []) bytes a b high low even e ha hb = absurd (omega arith)
byte_behind i (x ∷ y ∷ rest) bytes a b high low even e ha hb =
    let first = bind_ok (pair_value x y i) _ bytes e in
    let others = bind_ok (decode_pairs (i + 2) rest) _ bytes first.2 in
    let same : first.0 ∷ others.0 ≡ bytes = ap (λ (r : Result (List ℕ) FromHexError). result_unwrap_or r []) others.2 in
    let deeper = byte_behind (i + 2) rest others.0 a b high low (omega arith) others.1 ha hb in
    rw (← same) (decode_pairs-ok_pair i x y first.0 (rest ++ a ∷ b ∷ []) first.1 ∙ ap (cons_byte first.0) deeper)

-- no digit yet
pub Written-nil : Written [] [] None
unfolding decode_pairs
Written-nil = (refl, refl)

-- a digit more makes a byte with the one that waits
pub Written-pair : (digits bytes : List ℕ) (d high low : ℕ) → Written digits bytes (Some high) → hex_digit_value d ≡ Some low
    → Written (digits ++ d ∷ []) (bytes ++ (high * 16 + low) ∷ []) None
Written-pair digits bytes d high low w h =
    let whole : digits ++ d ∷ [] ≡ w.0 ++ w.1 ∷ d ∷ [] = ap (λ xs. xs ++ d ∷ []) w.2 ∙ append_assoc w.0 (w.1 ∷ []) (d ∷ []) in
    let long = length-append w.0 (w.1 ∷ d ∷ []) in
    let even = w.4 in
    rw whole (omega (arith, long, even), byte_behind 0 w.0 bytes w.1 d high low w.4 w.5 w.3 h)

-- what counts as a digit, by a byte's value and whether it is a capital letter
abbrev counts : Bool → Bool → Option ℕ → Bool
counts capitals upper v = cond capitals (is_some v) (is_some v && not upper)

counts_not : (capitals upper : Bool) (v : Option ℕ) → cond (counts capitals upper v) v None ≡ None → counts capitals upper v ≡ false
counts_not true upper (Some y) h = cc h
counts_not true upper None h = refl
counts_not false true (Some y) h = refl
counts_not false false (Some y) h = cc h
counts_not false true None h = refl
counts_not false false None h = refl

counts_so : (capitals upper : Bool) (v : Option ℕ) (y : ℕ) → cond (counts capitals upper v) v None ≡ Some y
    → (counts capitals upper v ≡ true) × (v ≡ Some y)
counts_so true upper (Some z) y h = (refl, h)
counts_so true upper None y h = cc h
counts_so false true (Some z) y h = cc h
counts_so false false (Some z) y h = (refl, h)
counts_so false true None y h = cc h
counts_so false false None y h = cc h

-- one byte more of a text, which is no digit
pub other_more : (capitals : Bool) (text : List ℕ) (i : ℕ) → i < length text → digit_in capitals (get_or text i 0) ≡ None
    → filter (is_digit capitals) (take (i + 1) text) ≡ filter (is_digit capitals) (take i text)
other_more capitals text i h e =
    let c = get_or text i 0 in
    let no = counts_not capitals (is_ascii_uppercase c) (hex_digit_value c) e in
    filter_more (is_digit capitals) text i 0 h
    ∙ ap (λ (b : Bool). filter (is_digit capitals) (take i text) ++ cond b (c ∷ []) []) no
    ∙ append-nil (filter (is_digit capitals) (take i text))

-- one byte more of a text, which is a digit of this value
pub digit_more : (capitals : Bool) (text : List ℕ) (i y : ℕ) → i < length text → digit_in capitals (get_or text i 0) ≡ Some y
    → (filter (is_digit capitals) (take (i + 1) text) ≡ filter (is_digit capitals) (take i text) ++ get_or text i 0 ∷ [])
    × (hex_digit_value (get_or text i 0) ≡ Some y)
digit_more capitals text i y h e =
    let c = get_or text i 0 in
    let yes = counts_so capitals (is_ascii_uppercase c) (hex_digit_value c) y e in (
      filter_more (is_digit capitals) text i 0 h
          ∙ ap (λ (b : Bool). filter (is_digit capitals) (take i text) ++ cond b (c ∷ []) []) yes.0,
      yes.1,
    )
