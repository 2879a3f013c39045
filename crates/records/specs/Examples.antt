-- Worked examples of the reading. Assumes nothing.
use Rattle.std.specs.Prelude.{◌≡◌, [], ◌∷◌, Ok, Err, refl}
use Rattle.syntax.specs.declared.faults.Reason.TheVariants.{NoMark, PastEnd, BadCount, BytesAfter}
use Rattle.syntax.specs.Faults.{fault}
use Rattle.records.specs.Reading.{records}

-- the naturals, an unknown and a goal of thirteen bytes
example_naturals :
    records (0x44 ∷ 0x54 ∷ 2 ∷ 0 ∷ 1 ∷ 1 ∷ 0x55 ∷ 0x4B ∷ 1 ∷ 0x47 ∷ 0x4C ∷ 0 ∷ 2 ∷ 7 ∷ 1 ∷ 0x45 ∷ 0x4E ∷ [])
    ≡ Ok (record { types = ([] ∷ (1 ∷ []) ∷ []) ∷ []; functions = []; unknowns = 1 ∷ []; goals = (7 ∷ 1 ∷ []) ∷ [] })
example_naturals = refl

-- no bytes at all lack the end's mark; so does half a mark
example_nothing : records [] ≡ Err (fault NoMark 0)
example_nothing = refl

example_half : records (0x45 ∷ []) ≡ Err (fault NoMark 0)
example_half = refl

-- a type after an unknown is out of order
example_order : records (0x55 ∷ 0x4B ∷ 0 ∷ 0x44 ∷ 0x54 ∷ 1 ∷ 0 ∷ 0x45 ∷ 0x4E ∷ []) ≡ Err (fault NoMark 3)
example_order = refl

-- no constructors; seventeen; seven arguments
example_none : records (0x44 ∷ 0x54 ∷ 0 ∷ 0x45 ∷ 0x4E ∷ []) ≡ Err (fault BadCount 2)
example_none = refl

example_seven : records (0x44 ∷ 0x54 ∷ 1 ∷ 7 ∷ 0x45 ∷ 0x4E ∷ []) ≡ Err (fault BadCount 3)
example_seven = refl

-- a record that is cut short is refused at its mark
example_cut : records (0x55 ∷ 0x4B ∷ 0 ∷ 0x47 ∷ 0x4C ∷ 0 ∷ 3 ∷ 1 ∷ 2 ∷ []) ≡ Err (fault PastEnd 3)
example_cut = refl

example_after : records (0x45 ∷ 0x4E ∷ 0 ∷ []) ≡ Err (fault BytesAfter 2)
example_after = refl
