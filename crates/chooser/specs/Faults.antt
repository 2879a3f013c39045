-- The number of each fault, and what is printed of it, case for case.
use Rattle.std.specs.Prelude.{ℕ, List, codes}
use Rattle.chooser.specs.declared.Fault.{Fault}
use Rattle.chooser.specs.declared.Fault.TheVariants.{NoVariable, Unallotted, NoEntries, WrongLength}
use Rattle.chooser.specs.declared.MakeFault.{MakeFault}
use Rattle.chooser.specs.declared.MakeFault.TheVariants.{TooManyEntries, NoMemory}

abbrev pub fault_number : Fault → ℕ
fault_number NoVariable = 61
fault_number Unallotted = 62
fault_number NoEntries = 63
fault_number WrongLength = 64

abbrev pub fault_text : Fault → List ℕ
fault_text NoVariable = codes "the formula has more variables than the chooser"
fault_text Unallotted = codes "the formula has a literal of no variable"
fault_text NoEntries = codes "the formula has more entries than the chooser"
fault_text WrongLength = codes "the answer has not a byte for each variable"

abbrev pub make_fault_text : MakeFault → List ℕ
make_fault_text TooManyEntries = codes "a chooser of too many entries"
make_fault_text NoMemory = codes "no memory"
