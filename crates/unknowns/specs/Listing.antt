-- What the code's table says: it lists an abstract table, whose unknowns are paths. Assumes nothing.
use Rattle.std.specs.Prelude.{◌≡◌, ℕ, ◌+◌, ◌<◌, ◌≤◌, List, [], ◌∷◌, length, Some, None, Option, slice_index_or}
use Rattle.std.proofs.Math.Option.{Option as Maybe, none, some}
use Rattle.syntax.specs.Problems.{Problem, sig_of}
use Rattle.judging.specs.Paths.{type_of}
use Rattle.finder.specs.Levels.{measures, level}
use Rattle.finder.specs.Tables.{Entry, Table, width, cases_at, arity, Tabled}
use Rattle.finder.specs.Ways.{Way}
use Rattle.places.specs.Places.{at, entry_at, offset, Placed, case_in}
use Rattle.unknowns.specs.declared.table.Unknown.{Unknown}
use Rattle.unknowns.specs.declared.table.Table.{Table as Code}
use Rattle.unknowns.specs.declared.table.Case.{Case}

abbrev pub maybe : {A : Type 0} → Option A → Maybe A
maybe None = none
maybe (Some a) = some a

abbrev pub blank : Unknown
blank = record { ty = 0; level = 0; first = None; kids = 0 }

abbrev pub row : Code → ℕ → Unknown
row t i = slice_index_or t.rows i blank

-- The row of the unknown at place i. An unknown's level is at most its place and 1, and its children stand after it: so a
-- level has 16 bits, and a walk from parent to child ends.
pub record Row (p : Problem) (T : Table) (i : ℕ) (x : Unknown) : Type 0 where
  pub typed : x.ty ≡ type_of (sig_of p) (at T i)
  pub levelled : x.level ≡ level p (measures p) (at T i)
  pub opened : maybe x.first ≡ (entry_at T i).first
  pub low : x.level ≤ i + 1
  pub ahead : (a : ℕ) → x.first ≡ Some a → i < x.kids

-- the code's table lists T
pub record Lists (p : Problem) (t : Code) (T : Table) : Type 0 where
  pub long : t.len ≡ length T
  pub rows : (i : ℕ) → i < length T → Row p T i (row t i)
  pub placed : Placed p T (λ i. (row t i).kids)

-- how many variables the opened unknowns have
abbrev pub taken_by : Problem → Entry → Maybe ℕ → ℕ
taken_by p x none = 0
taken_by p x (some a) = width p x.path

abbrev pub taken : Problem → Table → ℕ
taken p [] = 0
taken p (x ∷ T) = taken_by p x x.first + taken p T

-- The code's table lists T, whose variables are those below `count`: the goals' switches, and those of opened unknowns.
pub record Stands (p : Problem) (t : Code) (T : Table) (count : ℕ) : Type 0 where
  pub lists : Lists p t T
  pub tabled : Tabled p T count
  pub full : length p.goals + taken p T ≡ count

-- The cases that the way w gives the unknowns of T, as the code has them: none for what is not opened.
abbrev pub CaseOf : Problem → Table → (ℕ → ℕ) → ℕ → ℕ → Case → Type 0
CaseOf p T kids i c x =
    (x.constructor ≡ c) × (x.count ≡ arity p (at T i) c) × (x.kids ≡ kids i + offset (cases_at p (at T i)) c)

abbrev pub CaseAs : Problem → Table → (ℕ → ℕ) → ℕ → Maybe ℕ → Option Case → Type 0
CaseAs p T kids i none o = o ≡ None
CaseAs p T kids i (some c) None = ⊥
CaseAs p T kids i (some c) (Some x) = CaseOf p T kids i c x

-- `cases` has the case that w gives each unknown of the table
pub record DecidesAs (p : Problem) (t : Code) (T : Table) (w : Way) (cases : List (Option Case)) : Type 0 where
  pub each : (i : ℕ) → i < length T → CaseAs p T (λ m. (row t m).kids) i (case_in p w (entry_at T i)) (slice_index_or cases i None)
