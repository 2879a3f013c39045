-- The invariant of a session: what its table, its record of conflicts and its chooser's ways have to do with one another.
-- Assumes nothing.
use Rattle.std.specs.Prelude.{◌≡◌, ℕ, ◌+◌, ◌<◌, Bool, true, false, ◌&&◌, List, [], ◌∷◌, length}
use Rattle.std.proofs.Math.Option.{Option, none, some}
use Rattle.syntax.specs.Problems.{Problem}
use Rattle.judging.specs.Paths.{Path, Decision}
use Rattle.judging.specs.Assignments.{Judged}
use Rattle.judging.specs.Asked.{◌∈◌}
use Rattle.finder.specs.Tables.{Table, opening, width, Tabled}
use Rattle.finder.specs.Ways.{Way, OneCase}
use Rattle.finder.specs.Conflicts.{Choice, Conflict}

abbrev pub says_from : Way → ℕ → Option ℕ → Bool
says_from w c none = false
says_from w c (some a) = w (a + c)

-- w makes this choice
abbrev pub says : Table → Way → Choice → Bool
says T w x = says_from w x.con (opening T x.at)

abbrev pub says_all : Table → Way → List Choice → Bool
says_all T w [] = true
says_all T w (x ∷ xs) = says T w x && says_all T w xs

-- w has the conflict's switch on and makes all its choices
abbrev pub meets : Table → Way → Conflict → Bool
meets T w k = w k.of && says_all T w k.choices

-- w gives every opened unknown one case, and meets no conflict on record
pub record Fine (p : Problem) (T : Table) (R : List Conflict) (w : Way) : Type 0 where
  pub one : (u : Path) (a : ℕ) → opening T u ≡ some a → OneCase w a (width p u)
  pub no_conflict : (k : Conflict) → k ∈ R → meets T w k ≡ false

-- The conflict comes from its goal, judged false: it has the choice made for each unknown of the explanation, and each of its
-- choices is of an opened unknown.
pub record Explained (p : Problem) (T : Table) (k : Conflict) : Type 0 where
  pub is_goal : k.of < length p.goals
  pub under : Decision
  pub because : List Path
  pub judging : Judged p under k.of 0 because
  pub covers : (u : Path) → u ∈ because → (c : ℕ) × (under u ≡ some c) × (record { at = u; con = c } ∈ k.choices)
  pub opened : (x : Choice) → x ∈ k.choices → (a : ℕ) × (opening T x.at ≡ some a) × (x.con < width p x.at)

-- The chooser allows exactly the fine ways.
pub record Sound (p : Problem) (T : Table) (R : List Conflict) (count : ℕ) (ways : Way → Bool) : Type 0 where
  pub tabled : Tabled p T count
  pub explained : (k : Conflict) → k ∈ R → Explained p T k
  pub allowed : (w : Way) → ways w ≡ true → Fine p T R w
  pub allows : (w : Way) → Fine p T R w → ways w ≡ true
