-- Which goals are in force, as the code lists them. Assumes nothing.
use Rattle.std.specs.Prelude.{ℕ, Bool, false, List, slice_index_or}

-- whether a goal is in force; none past the end of the list is
abbrev pub forced : List Bool → ℕ → Bool
forced force g = slice_index_or force g false
