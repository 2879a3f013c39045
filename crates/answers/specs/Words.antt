-- The word of each outcome, case for case. Assumes nothing.
use Rattle.std.specs.Prelude.{List, ℕ, codes}
use Rattle.answers.specs.declared.answer.Outcome.{Outcome}
use Rattle.answers.specs.declared.answer.Outcome.TheVariants.{Model, None, Never, Foreign, SpentRounds, SpentSteps, SpentUnknowns, SpentChooser}

abbrev pub word : Outcome → List ℕ
word Model = codes "MODEL"
word None = codes "NONE"
word Never = codes "NEVER"
word Foreign = codes "FOREIGN"
word SpentRounds = codes "SPENT ROUNDS"
word (SpentSteps g) = codes "SPENT STEPS"
word SpentUnknowns = codes "SPENT UNKNOWNS"
word SpentChooser = codes "SPENT CHOOSER"
