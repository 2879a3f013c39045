-- What the parts of a round give it: each from a table that stands and from what the chooser meant when the round began. Assumes nothing.
use Rattle.std.specs.Prelude.{◌≡◌, ℕ, ◌<◌, ◌≤◌, Bool, true, List, length, Option}
use Rattle.std.proofs.Math.Option.{none}
use Rattle.chooser.specs.Ways.{allotted, written}
use Rattle.chooser.specs.Meaning.{Meaning, Same}
use Rattle.syntax.specs.Problems.{Problem}
use Rattle.problem.specs.Meant.{meant}
use Rattle.finder.specs.Levels.{measures}
use Rattle.finder.specs.Tables.{Table, opening}
use Rattle.finder.specs.Ways.{Way}
use Rattle.finder.specs.Conflicts.{Conflict}
use Rattle.finder.specs.Asking.{asked, Picks, Refuses}
use Rattle.finder.specs.Findings.{waiting_goal}
use Rattle.histories.specs.Rounds.{GoesBy, finds}
use Rattle.places.specs.Places.{at}
use Rattle.unknowns.specs.Listing.{Stands, DecidesAs}
use Rattle.unknowns.specs.declared.table.Table.{Table as Code}
use Rattle.unknowns.specs.declared.table.Case.{Case}
use Rattle.answers.specs.declared.answer.Outcome.{Outcome}
use Rattle.answers.specs.declared.answer.Outcome.TheVariants.{Model, None, Never, Foreign, SpentRounds, SpentSteps, SpentUnknowns, SpentChooser}
use Rattle.unknowns.specs.Force.{forced}
use Rattle.rounds.specs.declared.search.Search.{Search}
use Rattle.rounds.specs.declared.turn.Turn.{Turn}
use Rattle.rounds.specs.Turns.{known, TurnedBy}

-- The chooser meant M₀ when the round began, and means M now that it was asked; the round goes by the way w.
pub record Picked (p : Problem) (force : ℕ → Bool) (n : ℕ) (t : Code) (T : Table) (R : List Conflict) (M₀ M : Meaning) (w : Way) : Type 0 where
  pub same : Same M₀ M
  pub stands : Stands p t T M₀.count
  pub goes_by : GoesBy p force n (known T R) M₀ w

-- the opening of the unknown at place i, which a goal waits on
pub record Opening (s : Search) (t : Code) (i : ℕ) (M : Meaning) (t' : Code) (M' : Meaning) (r : Turn) : Type 0 where
  pub turns : (T : Table) (R : List Conflict) (M₀ : Meaning) (w : Way) (cases : List (Option Case)) (g : ℕ)
      → Picked (meant s.problem.now) (forced s.force.now) s.limits.depth t T R M₀ M w
      → finds (meant s.problem.now) (forced s.force.now) s.limits.steps (known T R) w ≡ waiting_goal g (at T i)
      → i < length T → opening T (at T i) ≡ none
      → TurnedBy (meant s.problem.now) (forced s.force.now) s.limits.depth s.limits.steps (known T R) M₀ t' M' cases r

-- the judging of the goals in force under the cases that w gives
pub record Judging (s : Search) (t : Code) (cases : List (Option Case)) (room : ℕ) (M : Meaning) (t' : Code) (M' : Meaning) (r : Turn) : Type 0 where
  pub turns : (T : Table) (R : List Conflict) (M₀ : Meaning) (w : Way) → Picked (meant s.problem.now) (forced s.force.now) s.limits.depth t T R M₀ M w
      → M₀.count ≤ room → DecidesAs (meant s.problem.now) t T w cases
      → TurnedBy (meant s.problem.now) (forced s.force.now) s.limits.depth s.limits.steps (known T R) M₀ t' M' cases r

-- the settling of the way that the chooser wrote
pub record Settling (s : Search) (t : Code) (way : List ℕ) (room : ℕ) (M : Meaning) (t' : Code) (M' : Meaning) (cases : List (Option Case)) (r : Turn) : Type 0 where
  pub turns : (T : Table) (R : List Conflict) (M₀ : Meaning) → Same M₀ M → Stands (meant s.problem.now) t T M₀.count → M₀.count ≤ room
      → Picks M₀ (asked (meant s.problem.now) (measures (meant s.problem.now)) (forced s.force.now) s.limits.depth T) (written way)
      → TurnedBy (meant s.problem.now) (forced s.force.now) s.limits.depth s.limits.steps (known T R) M₀ t' M' cases r

-- whether something is left under the switches
abbrev pub LeftUnder : Meaning → List ℕ → Outcome → Type 0
LeftUnder M ls Model = ⊥
LeftUnder M ls None = (w : Way) × Picks M ls w
LeftUnder M ls Never = Refuses M ls
LeftUnder M ls Foreign = ⊥
LeftUnder M ls SpentRounds = ⊥
LeftUnder M ls (SpentSteps g) = ⊥
LeftUnder M ls SpentUnknowns = ⊥
LeftUnder M ls SpentChooser = ⊥

pub record NeverOrNone (M M' : Meaning) (ls : List ℕ) (long : ℕ) (r : Outcome) : Type 0 where
  pub same : Same M M'
  pub left : allotted M.count ls ≡ true → long ≡ M.count → LeftUnder M ls r
