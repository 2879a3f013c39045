-- Reading model bytes front to back: where the values stand, or the first fault with its place. Assumes nothing.
use Rattle.std.specs.Prelude.{ℕ, zero, suc, ◌+◌, Bool, cond, ◌&&◌, List, [], ◌∷◌, length, Some, None, Ok, Err, Option, Result, ◌==◌, nat_le, nat_lt, slice_index}
use Rattle.syntax.specs.declared.faults.Fault.{Fault}
use Rattle.syntax.specs.declared.faults.Reason.TheVariants.{TooLong, NoMark, PastEnd, BadTerm, BytesAfter}
use Rattle.syntax.specs.Faults.{fault}
use Rattle.syntax.specs.Typing.{Sig, constructors, arguments}
use Rattle.syntax.specs.Problems.{Problem, sig_of}
use Rattle.records.specs.Reading.{and_then}

-- The byte at a place is looked at; a record that lacks it goes past the end, at its mark.
abbrev pub there : {A : Type 0} → List ℕ → ℕ → ℕ → Result A Fault → Result A Fault
there bs mark p r = cond (nat_lt p (length bs)) r (Err (fault PastEnd mark))

-- The byte at p is as it should be, or it is refused.
abbrev pub right : {A : Type 0} → ℕ → Bool → Result A Fault → Result A Fault
right p ok r = cond ok r (Err (fault BadTerm p))

-- where values of these types end that stand one after another from p on, given where one ends
abbrev pub ends : (ℕ → ℕ → Result ℕ Fault) → List ℕ → ℕ → Result ℕ Fault
ends one [] p = Ok p
ends one (t ∷ ts) p = and_then (one t p) (ends one ts)

-- the constructor of the value of the type t that stands at p; none if it is open
abbrev pub top_of : Sig → List ℕ → ℕ → ℕ → ℕ → Result (Option ℕ) Fault
top_of sig bs mark t p =
    there bs mark p (cond (slice_index bs p == 8) (Ok None) (right p (slice_index bs p == 2)
    (there bs mark (p + 1) (right (p + 1) (slice_index bs (p + 1) == t)
    (there bs mark (p + 2) (right (p + 2) (nat_lt (slice_index bs (p + 2)) (constructors sig t)) (Ok (Some (slice_index bs (p + 2))))))))))

-- where it ends, by its constructor
abbrev pub end_by : (ℕ → ℕ → Result ℕ Fault) → Sig → ℕ → ℕ → Option ℕ → Result ℕ Fault
end_by one sig t p None = Ok (p + 1)
end_by one sig t p (Some c) = ends one (arguments sig t c) (p + 3)

-- Where the value of the type t ends that stands at p, in the record with this mark. Values are nested at most n deep; as many
-- as there are bytes is no limit.
unfoldable pub value_end : ℕ → Sig → List ℕ → ℕ → ℕ → ℕ → Result ℕ Fault
value_end zero sig bs mark t p = Err (fault PastEnd mark)
value_end (suc n) sig bs mark t p = and_then (top_of sig bs mark t p) (end_by (value_end n sig bs mark) sig t p)

abbrev pub marked : List ℕ → ℕ → Bool
marked bs p = nat_lt (p + 1) (length bs) && (slice_index bs p == 0x4D && slice_index bs (p + 1) == 0x44)

-- the place of the value in the record of the unknown k, which starts at p
abbrev pub start_of : List ℕ → ℕ → ℕ → Result ℕ Fault
start_of bs k p =
    cond (marked bs p) (there bs p (p + 2) (right (p + 2) (slice_index bs (p + 2) == k) (Ok (p + 3)))) (Err (fault NoMark p))

abbrev pub preceded : ℕ → Result (List ℕ) Fault → Result (List ℕ) Fault
preceded x (Ok xs) = Ok (x ∷ xs)
preceded x (Err e) = Err e

-- The places of the values, for unknowns of these types from number k on, whose records start at p. Nothing follows the last.
abbrev pub places_from : Sig → List ℕ → ℕ → List ℕ → ℕ → Result (List ℕ) Fault
places_from sig bs k [] p = cond (nat_lt p (length bs)) (Err (fault BytesAfter p)) (Ok [])
places_from sig bs k (t ∷ ts) p =
    and_then (start_of bs k p) (λ v. and_then (value_end (length bs) sig bs p t v) (λ q. preceded v (places_from sig bs (k + 1) ts q)))

-- the place of each unknown's value
abbrev pub reading : Problem → List ℕ → Result (List ℕ) Fault
reading p bs = cond (nat_le (length bs) 16384) (places_from (sig_of p) bs 0 p.unknowns 0) (Err (fault TooLong 16384))
