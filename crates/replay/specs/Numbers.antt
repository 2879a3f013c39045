-- The numbers of a replay's refusals, and how refusals are printed. Assumes nothing.
use Rattle.std.specs.Prelude.{ℕ, List, ◌++◌, codes, decimal}
use Rattle.syntax.specs.Faults.{fault_text}
use Rattle.replay.specs.declared.faults.ReplayFault.{ReplayFault}
use Rattle.replay.specs.declared.faults.ReplayFault.TheVariants.{Steps, Places, AnswerLength, BadModel}

abbrev pub number_of : ReplayFault → ℕ
number_of Steps = 41
number_of Places = 42
number_of AnswerLength = 53
number_of (BadModel e) = 50

-- what is printed of a refusal: its number, and after it the reader's own fault
abbrev pub refusal_text : ReplayFault → List ℕ
refusal_text Steps = decimal 41
refusal_text Places = decimal 42
refusal_text AnswerLength = decimal 53
refusal_text (BadModel e) = decimal 50 ++ codes ": " ++ fault_text e
