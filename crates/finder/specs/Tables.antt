-- The table of unknowns: which are known, which of them are opened, and where their variables are. Assumes nothing.
use Rattle.std.specs.Prelude.{◌≡◌, ℕ, zero, suc, ◌+◌, ◌<◌, ◌≤◌, Bool, false, cond, ◌&&◌, List, [], ◌∷◌, ◌++◌, length, ◌==◌, slice_index_or}
use Rattle.std.proofs.Math.Option.{Option, none, some}
use Rattle.syntax.specs.Typing.{cases_of}
use Rattle.syntax.specs.Problems.{Problem, sig_of}
use Rattle.judging.specs.Paths.{Path, root, child, type_of}
use Rattle.judging.specs.Asked.{◌∈◌}

-- what the type of the unknown u has: its constructors, each by the types of its arguments, and how many they are
abbrev pub cases_at : Problem → Path → List (List ℕ)
cases_at p u = cases_of (sig_of p) (type_of (sig_of p) u)

abbrev pub width : Problem → Path → ℕ
width p u = length (cases_at p u)

abbrev pub arity : Problem → Path → ℕ → ℕ
arity p u c = length (slice_index_or (cases_at p u) c [])

-- An entry of the table: an unknown, and its first variable if it is opened. An opened unknown has a variable for each
-- constructor of its type, one after another. Its type and its level are those of its path.
pub record Entry : Type 0 where
  pub path : Path
  pub first : Option ℕ

abbrev pub Table : Type 0
Table = List Entry

abbrev pub paths : Table → List Path
paths [] = []
paths (x ∷ T) = x.path ∷ paths T

abbrev pub same_path : Path → Path → Bool
same_path (root k) (root l) = k == l
same_path (root k) (child v d i) = false
same_path (child u c j) (root l) = false
same_path (child u c j) (child v d i) = same_path u v && (c == d && j == i)

-- the first variable of u, if it is opened
abbrev pub opening : Table → Path → Option ℕ
opening [] u = none
opening (x ∷ T) u = cond (same_path x.path u) x.first (opening T u)

abbrev pub closed_entry : Path → Entry
closed_entry u = record { path = u; first = none }

-- the table at the start: the problem's unknowns in order
abbrev pub roots_from : ℕ → ℕ → Table
roots_from k zero = []
roots_from k (suc n) = closed_entry (root k) ∷ roots_from (suc k) n

abbrev pub first_table : Problem → Table
first_table p = roots_from 0 (length p.unknowns)

-- the table with u opened: its variables are from a on, and its children are appended by constructor, then argument
abbrev pub marked : Path → ℕ → Table → Table
marked u a [] = []
marked u a (x ∷ T) = cond (same_path x.path u) (record { path = x.path; first = some a }) x ∷ marked u a T

abbrev pub kids_from : Path → ℕ → ℕ → ℕ → Table
kids_from u c j zero = []
kids_from u c j (suc n) = closed_entry (child u c j) ∷ kids_from u c (suc j) n

abbrev pub kids_of : Path → ℕ → List (List ℕ) → Table
kids_of u c [] = []
kids_of u c (ts ∷ cs) = kids_from u c 0 (length ts) ++ kids_of u (suc c) cs

abbrev pub opened_at : Problem → Path → ℕ → Table → Table
opened_at p u a T = marked u a T ++ kids_of u 0 (cases_at p u)

infixr 67 ◌apart∷◌
pub data Distinct {A : Type 0} : List A → Type 0 where
  apart[] : Distinct []
  ◌apart∷◌ : {x : A} {xs : List A} → ¬ (x ∈ xs) → Distinct xs → Distinct (x ∷ xs)

-- What holds of every table that openings come to: no unknown stands in it twice, it has the problem's unknowns and all
-- children of what is opened, and no others; the variables below `count` are allotted, the first are the goals' switches,
-- and no two opened unknowns share one.
pub record Tabled (p : Problem) (T : Table) (count : ℕ) : Type 0 where
  pub distinct : Distinct (paths T)
  pub switches : length p.goals ≤ count
  pub roots : (k : ℕ) → k < length p.unknowns → root k ∈ paths T
  pub only_roots : (k : ℕ) → root k ∈ paths T → k < length p.unknowns
  pub parents : (u : Path) (c j : ℕ) → child u c j ∈ paths T → (a : ℕ) × (opening T u ≡ some a) × (c < width p u) × (j < arity p u c)
  pub kids : (u : Path) (a c j : ℕ) → opening T u ≡ some a → c < width p u → j < arity p u c → child u c j ∈ paths T
  pub variables : (u : Path) (a : ℕ) → opening T u ≡ some a → (length p.goals ≤ a) × (a + width p u ≤ count)
  pub disjoint : (u v : Path) (a b c d : ℕ) → opening T u ≡ some a → opening T v ≡ some b → c < width p u → d < width p v
      → a + c ≡ b + d → u ≡ v
