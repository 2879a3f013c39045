-- The numbers of the refusals, and how they are printed. Assumes nothing.
use Rattle.std.specs.Prelude.{ℕ, List, ◌++◌, codes, decimal}
use Rattle.syntax.specs.Faults.{fault_text}
use Rattle.telling.specs.declared.faults.TellFault.{TellFault}
use Rattle.telling.specs.declared.faults.TellFault.TheVariants.{BadModel, SmallOutput}

abbrev pub number_of : TellFault → ℕ
number_of (BadModel e) = 50
number_of SmallOutput = 46

abbrev pub refusal_text : TellFault → List ℕ
refusal_text (BadModel e) = decimal 50 ++ codes ": " ++ fault_text e
refusal_text SmallOutput = decimal 46
