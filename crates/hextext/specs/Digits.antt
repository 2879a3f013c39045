-- The digits of a text, and the bytes that they write.
use Rattle.std.specs.Prelude.{ℕ, ◌%◌, ◌≡◌, Bool, cond, ◌&&◌, not, List, [], ◌∷◌, ◌++◌, length, Option, None, Some, Ok}
use Rattle.std.specs.Char.{is_ascii_uppercase}
use Rattle.hex.specs.Hex.{hex_digit_value, is_hex_digit, decode_pairs}

-- whether c is a digit, and no letter in capitals
abbrev pub is_small_digit : ℕ → Bool
is_small_digit c = is_hex_digit c && not (is_ascii_uppercase c)

-- whether c is a digit, where letters in capitals are digits or are not
abbrev pub is_digit : Bool → ℕ → Bool
is_digit capitals c = cond capitals (is_hex_digit c) (is_small_digit c)

-- the value of the digit c, if it is one
abbrev pub digit_in : Bool → ℕ → Option ℕ
digit_in capitals c = cond (is_digit capitals c) (hex_digit_value c) None

-- the digits write these bytes, and a last one, if any, waits for a second
abbrev pub Written : List ℕ → List ℕ → Option ℕ → Type 0
Written digits bytes None = (length digits % 2 ≡ 0) × (decode_pairs 0 digits ≡ Ok bytes)
Written digits bytes (Some high) =
    (front : List ℕ) × (last : ℕ) × (digits ≡ front ++ last ∷ []) × (hex_digit_value last ≡ Some high)
    × (length front % 2 ≡ 0) × (decode_pairs 0 front ≡ Ok bytes)
