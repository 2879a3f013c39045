-- What an examination of bytes leaves in its tables. Assumes nothing.
use Rattle.std.specs.Prelude.{◌≡◌, ℕ, List, take, Ok, Err, Result}
use Rattle.syntax.specs.declared.faults.Fault.{Fault}
use Rattle.syntax.specs.declared.tables.Datatype.{Datatype}
use Rattle.syntax.specs.declared.tables.Callable.{Callable}
use Rattle.syntax.specs.declared.tables.Span.{Span}
use Rattle.syntax.specs.Problems.{Problem}
use Rattle.tables.specs.declared.filling.Counts.{Counts}
use Rattle.records.specs.Raw.{Raw}
use Rattle.tables.specs.Tabled.{Tabled, declared_by}
use Rattle.depths.specs.Least.{Leasts}
use Rattle.verdict.specs.Verdict.{verdict, terms_in}

-- the bytes are the problem p, whose records are r; the tables hold the records, and the least depth of each type
pub record Accepted (bs : List ℕ) (types : List Datatype) (functions : List Callable) (unknowns : List ℕ) (goals : List Span) (least : List ℕ) (n : Counts) : Type 0 where
  pub raw : Raw
  pub problem : Problem
  pub tabled : Tabled bs raw types functions unknowns goals n
  pub terms : terms_in raw ≡ Ok problem
  pub is : verdict bs ≡ Ok problem
  pub leasts : Leasts (declared_by raw) (take n.types least)

abbrev pub Examined : List ℕ → List Datatype → List Callable → List ℕ → List Span → List ℕ → Result Counts Fault → Type 0
Examined bs types functions unknowns goals least (Ok n) = Accepted bs types functions unknowns goals least n
Examined bs types functions unknowns goals least (Err f) = verdict bs ≡ Err f
