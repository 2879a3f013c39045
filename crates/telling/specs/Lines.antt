-- The line that tells of an answer. Assumes nothing.
use Rattle.std.specs.Prelude.{ℕ, List, ◌++◌, codes, decimal}
use Rattle.answers.specs.declared.answer.Answer.{Answer}
use Rattle.answers.specs.Words.{word}

-- a label, and the number behind it
abbrev pub labelled : List ℕ → ℕ → List ℕ
labelled label n = label ++ decimal n

unfoldable pub line_text : ℕ → Answer → List ℕ
line_text depth a =
    labelled (codes "depth ") depth ++ codes " " ++ word a.outcome ++ labelled (codes " rounds ") a.rounds
    ++ labelled (codes " opened ") a.opened ++ labelled (codes " recorded ") a.recorded ++ codes "\n"
