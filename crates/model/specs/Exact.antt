-- Which bytes are read: exactly those that write a model. Assumes nothing.
use Rattle.std.specs.Prelude.{◌≡◌, ℕ, List, Ok}
use Rattle.syntax.specs.Problems.{Problem}
use Rattle.model.specs.Partial.{Partials, Writes}
use Rattle.model.specs.Reading.{reading}

pub record ModelIn (p : Problem) (bytes : List ℕ) : Type 0 where
  pub parts : Partials
  pub writes : Writes p bytes parts

pub record ReadIn (p : Problem) (bytes : List ℕ) : Type 0 where
  pub roots : List ℕ
  pub reads : reading p bytes ≡ Ok roots

-- bytes are accepted exactly if they write a partial value of its type for each unknown, and nothing else
abbrev pub ReadingIsExact : Type 0
ReadingIsExact = (p : Problem) (bytes : List ℕ) → (ReadIn p bytes → ModelIn p bytes) × (ModelIn p bytes → ReadIn p bytes)
