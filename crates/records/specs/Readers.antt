-- What the calls of a reader answer, and where it stands after them. Assumes nothing.
use Rattle.std.specs.Prelude.{◌≡◌, ℕ, ◌+◌, ◌<◌, Bool, true, false, List, ◌∷◌, ◌++◌, drop, Some, None, Ok, Err, Option, Result}
use Rattle.syntax.specs.declared.faults.Fault.{Fault}
use Rattle.records.specs.declared.reader.Reader.{Reader}
use Rattle.syntax.specs.declared.faults.Reason.TheVariants.{BadCount}
use Rattle.syntax.specs.Faults.{fault}
use Rattle.records.specs.Reading.{Read, read, starts}

-- the bytes that are still to be read
abbrev pub ahead_of : Reader → List ℕ
ahead_of r = drop r.at r.bytes.now

-- A call answers what the definition d of its reading says, and the reader then stands after what was read.
-- A refusal leaves it as it was. The function f tells what an answer of the code stands for.
abbrev pub Takes : {A B : Type 0} → Result (Read A) Fault → (B → A) → Reader → Reader → Result B Fault → Type 0
Takes d f before after (Ok x) = (after.bytes.now ≡ before.bytes.now) × (d ≡ read (f x) (ahead_of after) after.at)
Takes d f before after (Err e) = (after ≡ before) × (d ≡ Err e)

-- The same for a call that answers none where no such record stands. The function w writes what was read, and P holds of each answer.
abbrev pub Hands : {A B : Type 0} → Result (Option (Read A)) Fault → (B → A) → (A → List ℕ) → (B → Type 0) → Reader → Reader → Result (Option B) Fault → Type 0
Hands d f w P before after (Ok None) = (after ≡ before) × (d ≡ Ok None)
Hands d f w P before after (Ok (Some x)) =
    (after.bytes.now ≡ before.bytes.now)
    × (d ≡ Ok (Some (record { value = f x; rest = ahead_of after; at = after.at })))
    × (ahead_of before ≡ w (f x) ++ ahead_of after) × P x
Hands d f w P before after (Err e) = (after ≡ before) × (d ≡ Err e)

-- A call that passes a mark a b, if it stands there, answers whether it does. With room for no more records, it is one too many.
abbrev pub Enters : Reader → (a b room : ℕ) → Reader → Result Bool Fault → Type 0
Enters before a b room after (Ok false) = (after ≡ before) × (starts a b (ahead_of before) ≡ false)
Enters before a b room after (Ok true) =
    (after.bytes.now ≡ before.bytes.now) × (after.at ≡ before.at + 2) × (0 < room)
    × (starts a b (ahead_of before) ≡ true) × (ahead_of before ≡ a ∷ (b ∷ ahead_of after))
Enters before a b room after (Err e) = (after ≡ before) × (starts a b (ahead_of before) ≡ true) × (room ≡ 0) × (e ≡ fault BadCount before.at)
