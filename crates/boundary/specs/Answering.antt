-- An answer as it crosses to C. Assumes nothing.
use Rattle.std.specs.Prelude.{◌≡◌, ℕ, Ok, Err, Result}
use Rattle.answers.specs.declared.answer.Outcome.{Outcome}
use Rattle.answers.specs.declared.answer.Outcome.TheVariants.{Model, None, Never, Foreign, SpentRounds, SpentSteps, SpentUnknowns, SpentChooser}
use Rattle.answers.specs.declared.answer.Answer.{Answer}
use Rattle.boundary.specs.declared.answering.DepthAnswer.{DepthAnswer}
use Rattle.boundary.specs.declared.faults.LoadFault.{LoadFault}
use Rattle.boundary.specs.declared.faults.LoadFault.TheVariants.{NoAnswer}

-- the number of each outcome, case for case
abbrev pub outcome_number : Outcome → ℕ
outcome_number Model = 1
outcome_number None = 2
outcome_number Never = 3
outcome_number Foreign = 4
outcome_number SpentRounds = 5
outcome_number (SpentSteps g) = 6
outcome_number SpentUnknowns = 7
outcome_number SpentChooser = 8

-- the goal that it names; 0 where it names none
abbrev pub goal_of : Outcome → ℕ
goal_of Model = 0
goal_of None = 0
goal_of Never = 0
goal_of Foreign = 0
goal_of SpentRounds = 0
goal_of (SpentSteps g) = g
goal_of SpentUnknowns = 0
goal_of SpentChooser = 0

abbrev pub as_written : Answer → DepthAnswer
as_written a =
    record { outcome = outcome_number a.outcome; goal = goal_of a.outcome; rounds = a.rounds; opened = a.opened; recorded = a.recorded }

-- the answer that is written so, or that none is
abbrev pub Reads : DepthAnswer → Result Answer LoadFault → Type 0
Reads d (Ok a) = as_written a ≡ d
Reads d (Err f) = (f ≡ NoAnswer) × ((a : Answer) → as_written a ≡ d → ⊥)
