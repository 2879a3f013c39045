-- A way gives each variable 0 or 1. It is a total function from ℕ to Bool, of which only the allotted variables count.
use Rattle.std.specs.Prelude.{ℕ, ◌*◌, ◌/◌, ◌%◌, Bool, cond, not, List, ◌==◌, nat_lt, slice_index}
use Rattle.std.specs.List.{list_any, list_all}

-- what a literal says: 2i that variable i is 1, 2i + 1 that it is 0
abbrev pub lit : (ℕ → Bool) → ℕ → Bool
lit p l = cond (l % 2 == 0) (p (l / 2)) (not (p (l / 2)))

-- some literal of the list passes: with `lit p`, that the way p meets the clause
abbrev pub some : (ℕ → Bool) → List ℕ → Bool
some f ls = list_any f ls

-- each literal of the list passes: with `lit p`, that the way p meets the assumptions
abbrev pub every : (ℕ → Bool) → List ℕ → Bool
every f ls = list_all f ls

-- each literal is of a variable below v
abbrev pub allotted : ℕ → List ℕ → Bool
allotted v ls = every (λ l. nat_lt l (2 * v)) ls

-- the way that a row of bytes writes
abbrev pub written : List ℕ → ℕ → Bool
written xs i = slice_index xs i == 1

-- each byte is 0 or 1
abbrev pub bits : List ℕ → Bool
bits xs = every (λ x. nat_lt x 2) xs
