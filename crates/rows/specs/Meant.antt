-- What a chooser means that holds its clauses in a row: `size` entries may be filled, and v of at most `most` variables are allotted.
use Rattle.std.specs.Prelude.{ℕ, ◌-◌, true, List, length}
use Rattle.chooser.specs.Ways.{lit}
use Rattle.chooser.specs.Meaning.{Meaning}
use Rattle.rows.specs.Rows.{holds}

abbrev pub meant : List ℕ → ℕ → ℕ → ℕ → Meaning
meant row size most v = record { count = v; room = most - v; left = size - length row; ways = λ p. holds (lit p) true 0 row }
