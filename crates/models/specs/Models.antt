-- A model as bytes, and what writing it does. Assumes nothing.
use Rattle.std.specs.Prelude.{◌≡◌, ℕ, ◌<◌, ◌≤◌, List, ◌++◌, drop, length, Ok, Err, Option, Result}
use Rattle.syntax.specs.Typing.{Sig}
use Rattle.syntax.specs.Problems.{Problem}
use Rattle.finder.specs.Tables.{Table}
use Rattle.finder.specs.Ways.{Way, decided}
use Rattle.finder.specs.Models.{Partial, open_part, built, Partials, o[], ◌o∷◌, ModelOf}
use Rattle.model.specs.Partial.{Partial as Part, open_part as no_part, built as made, Partials as Parts, p[], ◌p∷◌, written, encode_model}
use Rattle.unknowns.specs.Listing.{Stands, DecidesAs}
use Rattle.unknowns.specs.declared.table.Table.{Table as Code}
use Rattle.unknowns.specs.declared.table.Case.{Case}

-- a partial value as the definition of model bytes has it
abbrev mutual
  pub part : Partial → Part
  part open_part = no_part
  part (built c qs) = made c (parts qs)

  pub parts : Partials → Parts
  parts o[] = p[]
  parts (q o∷ qs) = part q p∷ parts qs

-- the bytes of a partial value of the type t, and of a model
abbrev pub written_value : Sig → ℕ → Partial → List ℕ
written_value sig t q = written sig t (part q)

abbrev pub written_model : Problem → Partials → List ℕ
written_model p qs = encode_model p (parts qs)

-- The most bytes that a model has: three for each of the problem's 16 unknowns, and at most three for each of a table's 512.
abbrev pub most_bytes : ℕ
most_bytes = 1584

-- The output begins with these bytes and goes on as before, or it is too short for them and as it was.
abbrev pub Wrote : {E : Type 0} → List ℕ → List ℕ → List ℕ → Result ℕ E → Type 0
Wrote bytes old new (Ok n) = (n ≡ length bytes) × (new ≡ bytes ++ drop n old)
Wrote bytes old new (Err e) = (length old < length bytes) × (new ≡ old)

-- Whatever table and way the code's table and the cases stand for: the way makes a model, it has at most so many bytes, and they
-- are what is written.
pub record WritesModel {E : Type 0} (p : Problem) (t : Code) (cases : List (Option Case)) (old new : List ℕ) (r : Result ℕ E) : Type 0 where
  pub exists : (T : Table) (count : ℕ) (w : Way) → Stands p t T count → (qs : Partials) × ModelOf p (decided p T w) qs
  pub low : (T : Table) (count : ℕ) (w : Way) (qs : Partials) → Stands p t T count → ModelOf p (decided p T w) qs
      → length (written_model p qs) ≤ most_bytes
  pub writes : (T : Table) (count : ℕ) (w : Way) (qs : Partials) → Stands p t T count → DecidesAs p t T w cases → ModelOf p (decided p T w) qs
      → Wrote (written_model p qs) old new r
