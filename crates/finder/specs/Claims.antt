-- What is claimed of tables, ways and conflicts. Assumes nothing.
use Rattle.std.specs.Prelude.{◌≡◌, ℕ, ◌+◌, ◌<◌, Bool, true, false, ◌&&◌, List, [], ◌∷◌, length}
use Rattle.std.proofs.Math.Option.{none}
use Rattle.chooser.specs.Ways.{lit, every}
use Rattle.syntax.specs.Values.{Values}
use Rattle.syntax.specs.Problems.{Problem, sig_of, Lawful}
use Rattle.depths.specs.Laws.{Depths}
use Rattle.judging.specs.Paths.{Path, Decision, under}
use Rattle.judging.specs.Assignments.{Assigns, Judged, Awaits, ComesTrue}
use Rattle.judging.specs.Asked.{◌∈◌}
use Rattle.finder.specs.Levels.{measured, too_shallow, Within}
use Rattle.finder.specs.Tables.{Table, paths, opening, width, first_table, opened_at, Distinct, Tabled}
use Rattle.finder.specs.Ways.{Way, decides_all, decided}
use Rattle.finder.specs.Clauses.{all_met, opening_clauses}
use Rattle.finder.specs.Conflicts.{Conflict, conflict, conflict_clause, Forbids, FullSet, Full, ForbidsSet, Allows}
use Rattle.finder.specs.Asking.{switches, asked}
use Rattle.finder.specs.Findings.{false_goal, waiting_goal, all_true, finding}
use Rattle.finder.specs.Models.{Partials, ModelOf, Filled, replayed, JudgesTrue, Solves}
use Rattle.finder.specs.Invariant.{Fine, Explained, Sound}

-- At the start, with no variable and every way allowed, the invariant stands; opening an unknown and recording a conflict keep it.
abbrev pub BeginsSound : Type 0
BeginsSound = (p : Problem) (ways : Way → Bool) → ((w : Way) → ways w ≡ true) → Sound p (first_table p) [] (length p.goals) ways

abbrev pub OpeningKeeps : Type 0
OpeningKeeps =
    (p : Problem) (T : Table) (R : List Conflict) (count : ℕ) (ways ways' : Way → Bool) (u : Path)
    → Sound p T R count ways → u ∈ paths T → opening T u ≡ none
    → ((w : Way) → ways' w ≡ (ways w && all_met w (opening_clauses count (width p u))))
    → Sound p (opened_at p u count T) R (count + width p u) ways'

abbrev pub RecordingKeeps : Type 0
RecordingKeeps =
    (p : Problem) (T : Table) (R : List Conflict) (count : ℕ) (ways ways' : Way → Bool) (k : Conflict)
    → Sound p T R count ways → Explained p T k
    → ((w : Way) → ways' w ≡ (ways w && all_met w (conflict_clause T k ∷ [])))
    → Sound p T (k ∷ R) count ways'

-- Every opened unknown has exactly one case in a way that the chooser allows.
abbrev pub NeverForeign : Type 0
NeverForeign = (p : Problem) (T : Table) (R : List Conflict) (w : Way) → Distinct (paths T) → Fine p T R w → decides_all p w T ≡ true

-- What a goal waits on is in the table and not opened.
abbrev pub AwaitedInTable : Type 0
AwaitedInTable =
    (p : Problem) (T : Table) (R : List Conflict) (count : ℕ) (w : Way) (g : ℕ) (u : Path) → Lawful p → g < length p.goals
    → Tabled p T count → Fine p T R w → Awaits p (decided p T w) g u → (u ∈ paths T) × (opening T u ≡ none)

-- A conflict forbids only assignments under which its goal does not come to true.
abbrev pub ForbidsOnly : Type 0
ForbidsOnly = (p : Problem) (T : Table) (k : Conflict) (α : Values) → Explained p T k → Forbids k α → ComesTrue p α k.of → ⊥

-- A goal judged false under the decision of a way gives a conflict of the table; if the chooser allows the way, with the goals
-- in force switched on, the new conflict forbids a full set that the record still allowed.
abbrev pub ConflictExplained : Type 0
ConflictExplained =
    (p : Problem) (T : Table) (w : Way) (g : ℕ) (E : List Path) → g < length p.goals → Judged p (decided p T w) g 0 E
    → Explained p T (conflict p T w g E)

abbrev pub NewInFull : Type 0
NewInFull =
    (p : Problem) (T : Table) (R : List Conflict) (count : ℕ) (ways : Way → Bool) (w : Way) (force : ℕ → Bool) (g : ℕ) (E : List Path)
    → Sound p T R count ways → ways w ≡ true → every (lit w) (switches p force) ≡ true
    → (F : FullSet) × Full p T F × Allows R force F × ForbidsSet (conflict p T w g E) F
    × ((u : Path) → opening T u ≡ none → F u ≡ 0)

-- What a round's finding under the way w says of the goals.
pub record FindingsSay (p : Problem) (T : Table) (w : Way) (force : ℕ → Bool) (steps : ℕ) : Type 0 where
  pub when_false : (g : ℕ) (E : List Path) → finding p (under p (decided p T w)) force steps ≡ false_goal g E
      → (g < length p.goals) × (force g ≡ true) × Judged p (decided p T w) g 0 E
  pub when_waiting : (g : ℕ) (u : Path) → finding p (under p (decided p T w)) force steps ≡ waiting_goal g u
      → (g < length p.goals) × (force g ≡ true) × Awaits p (decided p T w) g u
  pub when_true : finding p (under p (decided p T w)) force steps ≡ all_true → JudgesTrue p (decided p T w) force steps

abbrev pub FindingsStand : Type 0
FindingsStand =
    (p : Problem) (T : Table) (w : Way) (force : ℕ → Bool) (steps : ℕ) → Lawful p → FindingsSay p T w force steps

-- The model of a way under which every goal in force is true: it can be filled within n; however it is filled, every goal in
-- force comes to true; and its own decisions, no more, make every goal in force true with the same steps.
pub record ModelRight (p : Problem) (δ : Decision) (n : ℕ) (force : ℕ → Bool) (steps : ℕ) : Type 0 where
  pub fillable : (qs : Partials) × ModelOf p δ qs × (α : Values) × Filled p qs α × Within p n α
  pub filled : (qs : Partials) → ModelOf p δ qs → (α : Values) → Filled p qs α → Assigns p α × Solves p force α
  pub replays : (qs : Partials) → ModelOf p δ qs → JudgesTrue p (replayed qs) force steps

abbrev pub ModelsStand : Type 0
ModelsStand =
    (p : Problem) (D : Depths (sig_of p)) (T : Table) (count n : ℕ) (force : ℕ → Bool) (steps : ℕ) (w : Way)
    → Lawful p → Tabled p T count → too_shallow p (measured D) n ≡ false
    → every (lit w) (asked p (measured D) force n T) ≡ true → JudgesTrue p (decided p T w) force steps
    → ModelRight p (decided p T w) n force steps

-- From an assignment to a way: so a chooser that allows no way that meets what is asked is right, and there is none.
abbrev pub NoneStands : Type 0
NoneStands =
    (p : Problem) (D : Depths (sig_of p)) (T : Table) (R : List Conflict) (count n : ℕ) (ways : Way → Bool) (force : ℕ → Bool)
    → Lawful p → Sound p T R count ways
    → ((w : Way) → (ways w && every (lit w) (asked p (measured D) force n T)) ≡ false)
    → (α : Values) → Assigns p α → Within p n α → Solves p force α → ⊥

abbrev pub NeverStands : Type 0
NeverStands =
    (p : Problem) (D : Depths (sig_of p)) (T : Table) (R : List Conflict) (count : ℕ) (ways : Way → Bool) (force : ℕ → Bool)
    → Lawful p → Sound p T R count ways → ((w : Way) → (ways w && every (lit w) (switches p force)) ≡ false)
    → (α : Values) → Assigns p α → Solves p force α → ⊥

-- where the least depth of an unknown's type is above n, no assignment is within n
abbrev pub ShallowStands : Type 0
ShallowStands =
    (p : Problem) (D : Depths (sig_of p)) (n : ℕ) → Lawful p → too_shallow p (measured D) n ≡ true
    → (α : Values) → Assigns p α → Within p n α → ⊥
