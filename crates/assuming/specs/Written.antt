-- What a writer of literals has written. Assumes nothing.
use Rattle.std.specs.Prelude.{◌≡◌, ℕ, ◌≤◌, List, ◌++◌, length, take}
use Rattle.assuming.specs.declared.writer.LiteralWriter.{LiteralWriter}

abbrev pub written : LiteralWriter → List ℕ
written w = take w.len w.literals.now

-- Between a and b the literals ls were written behind the others, as far as there is room.
pub record Pushed (a b : LiteralWriter) (ls : List ℕ) : Type 0 where
  pub long : length b.literals.now ≡ length a.literals.now
  pub up : a.len ≤ b.len
  pub within : a.len ≤ length a.literals.now → b.len ≤ length a.literals.now
  pub holds : written b ≡ take (length a.literals.now) (written a ++ ls)
