-- The numbers of the reasons for which bytes are refused, and how faults are printed. Assumes nothing.
use Rattle.std.specs.Prelude.{ℕ, List, ◌++◌, codes, decimal}
use Rattle.syntax.specs.declared.faults.Reason.{Reason}
use Rattle.syntax.specs.declared.faults.Reason.TheVariants.{TooLong, NoMark, PastEnd, BadCount, Undeclared, BadTerm, NoValue, BytesAfter}
use Rattle.syntax.specs.declared.faults.Layer.{Layer}
use Rattle.syntax.specs.declared.faults.Layer.TheVariants.{Records, Types, Terms}
use Rattle.syntax.specs.declared.faults.Fault.{Fault}

abbrev pub number_of : Reason → ℕ
number_of TooLong = 1
number_of NoMark = 2
number_of PastEnd = 3
number_of BadCount = 4
number_of Undeclared = 5
number_of BadTerm = 6
number_of NoValue = 7
number_of BytesAfter = 8

-- the layer in which a reason is found
abbrev pub layer_of : Reason → Layer
layer_of TooLong = Records
layer_of NoMark = Records
layer_of PastEnd = Records
layer_of BadCount = Records
layer_of Undeclared = Types
layer_of BadTerm = Terms
layer_of NoValue = Types
layer_of BytesAfter = Records

abbrev pub fault : Reason → ℕ → Fault
fault r p = record { reason = r; place = p; layer = layer_of r }

-- what is printed of a layer, and of a fault
abbrev pub layer_text : Layer → List ℕ
layer_text Records = codes "records"
layer_text Types = codes "types"
layer_text Terms = codes "terms"

abbrev pub fault_text : Fault → List ℕ
fault_text f = decimal (number_of f.reason) ++ codes " at " ++ decimal f.place
