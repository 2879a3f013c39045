-- Entries of the table of types stand for the types that are declared. Assumes nothing.
use Rattle.std.proofs.Common.{◌≡◌, ℕ, ◌<◌, List, [], map, length, get_or}
use Rattle.std.proofs.lemmas.List.{get_or-map}
use Rattle.syntax.specs.declared.tables.Datatype.{Datatype}
use Rattle.syntax.specs.Tables.{cases_in}
use Rattle.syntax.proofs.Entries.{no_datatype}

pub cases_at : (ds : List Datatype) (t : ℕ) → t < length ds → get_or (map cases_in ds) t [] ≡ cases_in (get_or ds t no_datatype)
cases_at ds t h = get_or-map cases_in ds t no_datatype [] h
