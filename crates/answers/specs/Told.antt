-- What the code answers for each answer of the relations: all of it but the way of a model, which no caller is told. Assumes nothing.
use Rattle.histories.specs.Rounds.{Outcome as Abstract, model, none_within, never, foreign, spent_rounds, spent_steps, spent_unknowns, spent_chooser, Answer as Told}
use Rattle.answers.specs.declared.answer.Outcome.{Outcome}
use Rattle.answers.specs.declared.answer.Outcome.TheVariants.{Model, None, Never, Foreign, SpentRounds, SpentSteps, SpentUnknowns, SpentChooser}
use Rattle.answers.specs.declared.answer.Answer.{Answer}

abbrev pub outcome_of : Abstract → Outcome
outcome_of (model w) = Model
outcome_of none_within = None
outcome_of never = Never
outcome_of foreign = Foreign
outcome_of spent_rounds = SpentRounds
outcome_of (spent_steps g) = SpentSteps g
outcome_of spent_unknowns = SpentUnknowns
outcome_of spent_chooser = SpentChooser

abbrev pub answer_of : Told → Answer
answer_of a = record { outcome = outcome_of a.outcome; rounds = a.rounds; opened = a.opened; recorded = a.recorded }
