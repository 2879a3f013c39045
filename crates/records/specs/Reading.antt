-- Reading the records front to back: what they hold, or the first fault with its place. Assumes nothing.
use Rattle.std.specs.Prelude.{ℕ, zero, suc, ◌+◌, ◌*◌, Bool, false, cond, ◌&&◌, List, [], ◌∷◌, length, take, drop, Ok, Err, Result, ◌==◌, nat_le}
use Rattle.syntax.specs.declared.faults.Fault.{Fault}
use Rattle.syntax.specs.declared.faults.Reason.TheVariants.{TooLong, NoMark, PastEnd, BadCount, BytesAfter}
use Rattle.syntax.specs.Faults.{fault}
use Rattle.records.specs.Raw.{Raw, RawFunction}

-- what was read, the bytes after it, and their place
pub record Read (A : Type 0) : Type 0 where
  pub value : A
  pub rest : List ℕ
  pub at : ℕ

abbrev pub read : {A : Type 0} → A → List ℕ → ℕ → Result (Read A) Fault
read x bs p = Ok (record { value = x; rest = bs; at = p })

abbrev pub and_then : {A B : Type 0} → Result A Fault → (A → Result B Fault) → Result B Fault
and_then (Ok x) f = f x
and_then (Err e) f = Err e

-- a list with one more item in front
abbrev pub preceded : {A : Type 0} → A → Result (Read (List A)) Fault → Result (Read (List A)) Fault
preceded x (Ok r) = read (x ∷ r.value) r.rest r.at
preceded x (Err e) = Err e

-- In these, m is the place of the record's mark, and p the place of the first of the bytes.
-- The next n bytes; a record that lacks some of its bytes is past the end, at its mark.
abbrev pub bytes_of : ℕ → ℕ → List ℕ → ℕ → Result (Read (List ℕ)) Fault
bytes_of m n bs p = cond (nat_le n (length bs)) (read (take n bs) (drop n bs) (p + n)) (Err (fault PastEnd m))

abbrev pub byte_of : ℕ → List ℕ → ℕ → Result (Read ℕ) Fault
byte_of m [] p = Err (fault PastEnd m)
byte_of m (b ∷ bs) p = read b bs (p + 1)

-- a count, at most six, and that many types
abbrev pub list_of : ℕ → List ℕ → ℕ → Result (Read (List ℕ)) Fault
list_of m [] p = Err (fault PastEnd m)
list_of m (n ∷ bs) p = cond (nat_le n 6) (bytes_of m n bs (p + 1)) (Err (fault BadCount p))

-- n constructors
abbrev pub lists_of : ℕ → ℕ → List ℕ → ℕ → Result (Read (List (List ℕ))) Fault
lists_of m zero bs p = read [] bs p
lists_of m (suc n) bs p = and_then (list_of m bs p) (λ r. preceded r.value (lists_of m n r.rest r.at))

-- a count of 1 to 16, and that many constructors
abbrev pub type_of : ℕ → List ℕ → ℕ → Result (Read (List (List ℕ))) Fault
type_of m [] p = Err (fault PastEnd m)
type_of m (n ∷ bs) p = cond (nat_le 1 n && nat_le n 16) (lists_of m n bs (p + 1)) (Err (fault BadCount p))

-- a length in two bytes, and that many bytes
abbrev pub part_of : ℕ → List ℕ → ℕ → Result (Read (List ℕ)) Fault
part_of m [] p = Err (fault PastEnd m)
part_of m (h ∷ []) p = Err (fault PastEnd m)
part_of m (h ∷ (l ∷ bs)) p = bytes_of m (256 * h + l) bs (p + 2)

abbrev pub function_of : ℕ → List ℕ → ℕ → Result (Read RawFunction) Fault
function_of m bs p =
    and_then (list_of m bs p) (λ ps. and_then (byte_of m ps.rest ps.at) (λ t. and_then (part_of m t.rest t.at) (λ b.
    read (record { profile = record { params = ps.value; result = t.value }; body = b.value }) b.rest b.at)))

-- do the bytes start with this mark?
abbrev pub starts : ℕ → ℕ → List ℕ → Bool
starts a b [] = false
starts a b (x ∷ []) = false
starts a b (x ∷ (y ∷ bs)) = x == a && y == b

-- The records of one kind, all with the mark a b, as far as they go; one more than n is one too many, at its mark.
abbrev pub many : {A : Type 0} → (ℕ → List ℕ → ℕ → Result (Read A) Fault) → (a b n : ℕ) → List ℕ → ℕ → Result (Read (List A)) Fault
many one a b zero bs p = cond (starts a b bs) (Err (fault BadCount p)) (read [] bs p)
many one a b (suc n) bs p =
    cond (starts a b bs)
    (and_then (one p (drop 2 bs) (p + 2)) (λ r. preceded r.value (many one a b n r.rest r.at)))
    (read [] bs p)

-- The end record, and nothing after it. Whatever else stands where a record should start is no mark.
abbrev pub end_of : {A : Type 0} → A → List ℕ → ℕ → Result A Fault
end_of x bs p = cond (starts 0x45 0x4E bs) (cond (nat_le (length bs) 2) (Ok x) (Err (fault BytesAfter (p + 2)))) (Err (fault NoMark p))

abbrev pub all_of : List ℕ → Result Raw Fault
all_of bs =
    and_then (many type_of 0x44 0x54 31 bs 0) (λ ts. and_then (many function_of 0x46 0x4E 64 ts.rest ts.at) (λ fs.
    and_then (many byte_of 0x55 0x4B 16 fs.rest fs.at) (λ us. and_then (many part_of 0x47 0x4C 32 us.rest us.at) (λ gs.
    end_of (record { types = ts.value; functions = fs.value; unknowns = us.value; goals = gs.value }) gs.rest gs.at))))

abbrev pub records : List ℕ → Result Raw Fault
records bs = cond (nat_le (length bs) 16384) (all_of bs) (Err (fault TooLong 16384))
