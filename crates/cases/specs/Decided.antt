-- What a way says of the rows of the code's table: which case an opened unknown has, if it has exactly one. Assumes nothing.
use Rattle.std.specs.Prelude.{◌≡◌, ℕ, ◌+◌, ◌<◌, ◌≤◌, min, Bool, true, List, [], length, Some, None, Ok, Err, Option, Result, slice_index_or}
use Rattle.std.proofs.Math.Option.{some}
use Rattle.chooser.specs.Ways.{written}
use Rattle.syntax.specs.Typing.{cases_of}
use Rattle.syntax.specs.Problems.{Problem, sig_of}
use Rattle.finder.specs.Tables.{Table}
use Rattle.finder.specs.Ways.{Way, how_many, case_at, decides_all}
use Rattle.places.specs.Places.{offset}
use Rattle.unknowns.specs.Listing.{blank, Stands, DecidesAs}
use Rattle.unknowns.specs.declared.table.Unknown.{Unknown}
use Rattle.unknowns.specs.declared.table.Table.{Table as Code}
use Rattle.unknowns.specs.declared.table.Case.{Case}
use Rattle.cases.specs.declared.decide.NotOneCase.{NotOneCase}

-- the one case that w gives the m variables from a on; none if it gives none or several
abbrev pub OnlyCase : Way → ℕ → ℕ → Option ℕ → Type 0
OnlyCase w a m None = how_many w a m ≡ 1 → ⊥
OnlyCase w a m (Some c) = (how_many w a m ≡ 1) × (case_at w a m ≡ some c)

-- The case that the constructor c gives an unknown of a type with the constructors cs, whose children stand from `kids` on.
-- Places have 16 bits.
pub record CaseWith (cs : List (List ℕ)) (kids c : ℕ) (x : Case) : Type 0 where
  pub constructor : x.constructor ≡ c
  pub count : x.count ≡ length (slice_index_or cs c [])
  pub kids_at : x.kids ≡ min (kids + offset cs c) 65535
  pub low : kids ≤ 65535

abbrev pub row_in : List Unknown → ℕ → Unknown
row_in rows i = slice_index_or rows i blank

-- what the way w says of a row of the table
abbrev pub RowDecided : List (List ℕ) → Way → Unknown → Result (Option Case) NotOneCase → Type 0
RowDecided cs w x (Ok None) = x.first ≡ None
RowDecided cs w x (Ok (Some c)) =
    (a : ℕ) × (x.first ≡ Some a) × OnlyCase w a (length cs) (Some c.constructor) × CaseWith cs x.kids c.constructor c
RowDecided cs w x (Err e) = (a : ℕ) × (x.first ≡ Some a) × OnlyCase w a (length cs) None

-- so of all rows, with the cases as far as there are rows, or of some row that has no case or more than one
abbrev pub RowsDecided : {U : Type 0} → Problem → List Unknown → Way → List (Option Case) → Result U NotOneCase → Type 0
RowsDecided p rows w cases (Ok u) =
    (i : ℕ) → i < length rows → RowDecided (cases_of (sig_of p) (row_in rows i).ty) w (row_in rows i) (Ok (slice_index_or cases i None))
RowsDecided p rows w cases (Err e) = (i : ℕ) × (i < length rows) × RowDecided (cases_of (sig_of p) (row_in rows i).ty) w (row_in rows i) (Err e)

-- r says whether the way gives each opened unknown of the table exactly one case; if so, those are the cases
pub record DecidedBy (p : Problem) (t : Code) (way : List ℕ) (cases : List (Option Case)) (r : Bool) : Type 0 where
  pub answers : (T : Table) (count : ℕ) → Stands p t T count → r ≡ decides_all p (written way) T
  pub cases_are : (T : Table) (count : ℕ) → Stands p t T count → r ≡ true → DecidesAs p t T (written way) cases
