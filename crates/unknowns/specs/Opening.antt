-- What an opening does to the code's table. Assumes nothing.
use Rattle.std.specs.Prelude.{◌≡◌, ℕ, suc, ◌+◌, List, [], ◌∷◌, ◌++◌, map, min, take, None, Some}
use Rattle.std.proofs.Math.Option.{none}
use Rattle.syntax.specs.Values.{cost}
use Rattle.syntax.specs.Problems.{Problem, sig_of}
use Rattle.finder.specs.Tables.{Table, opening, width, opened_at}
use Rattle.places.specs.Places.{at}
use Rattle.unknowns.specs.Listing.{Stands}
use Rattle.unknowns.specs.declared.table.Unknown.{Unknown}
use Rattle.unknowns.specs.declared.table.Table.{Table as Code}

-- the rows that are in use
abbrev pub rows_of : Code → List Unknown
rows_of t = take t.len t.rows

-- an unknown that is not opened
abbrev pub unopened : ℕ → ℕ → Unknown
unopened level ty = record { ty = ty; level = level; first = None; kids = 0 }

-- x with its variables from `first` on, and its children from the place `kids` on
abbrev pub opened_row : Unknown → ℕ → ℕ → Unknown
opened_row x first kids = record { ty = x.ty; level = x.level; first = Some first; kids = kids }

-- the level of the children of x under its constructor c, as far as a level's 16 bits go
abbrev pub level_under : Problem → Unknown → ℕ → ℕ
level_under p x c = min (x.level + cost (sig_of p) x.ty c) 65535

-- the children of x from its constructor c on, of which `cs` has the types of the arguments
abbrev pub kids_under : Problem → Unknown → ℕ → List (List ℕ) → List Unknown
kids_under p x c [] = []
kids_under p x c (ts ∷ cs) = map (unopened (level_under p x c)) ts ++ kids_under p x (suc c) cs

-- t' is t with the unknown at place i opened: whatever table t stands for, if `first` is its next variable and the unknown is not
-- opened in it, t' stands for that table with the unknown opened.
pub record Opens (p : Problem) (t : Code) (i first : ℕ) (t' : Code) : Type 0 where
  pub keeps : (T : Table) (count : ℕ) → Stands p t T count → opening T (at T i) ≡ none → first ≡ count
      → Stands p t' (opened_at p (at T i) count T) (count + width p (at T i))
