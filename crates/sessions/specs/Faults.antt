-- The number of each fault, the refusal that it is, and how it is printed. Assumes nothing.
use Rattle.std.specs.Prelude.{ℕ, List, ◌++◌, codes, decimal, Ok, Err, Result}
use Rattle.std.proofs.Math.Option.{Option, none, some}
use Rattle.chooser.specs.Faults.{fault_number}
use Rattle.histories.specs.Calls.{Refusal}
use Rattle.sessions.specs.declared.faults.SessionFault.{SessionFault}
use Rattle.sessions.specs.declared.faults.SessionFault.TheVariants.{NotNew, TooFewVariables, NoSuchGoal, InForce, NotInForce, BadDepth, BadLimits, SmallBuffers, NotAsSeen, NoModel, SmallOutput}

abbrev pub number_of : SessionFault → ℕ
number_of NotNew = 20
number_of (TooFewVariables fault) = 21
number_of NoSuchGoal = 30
number_of InForce = 31
number_of NotInForce = 32
number_of BadDepth = 40
number_of BadLimits = 41
number_of SmallBuffers = 42
number_of NotAsSeen = 43
number_of NoModel = 45
number_of SmallOutput = 46

-- the number of the chooser's fault that it carries
abbrev pub inside_of : SessionFault → Option ℕ
inside_of NotNew = none
inside_of (TooFewVariables fault) = some (fault_number fault)
inside_of NoSuchGoal = none
inside_of InForce = none
inside_of NotInForce = none
inside_of BadDepth = none
inside_of BadLimits = none
inside_of SmallBuffers = none
inside_of NotAsSeen = none
inside_of NoModel = none
inside_of SmallOutput = none

abbrev pub refusal_of : SessionFault → Refusal
refusal_of f = record { number = number_of f; inside = inside_of f }

-- the refusal that a result is, if it is one
abbrev pub told : {U : Type 0} → Result U SessionFault → Option Refusal
told (Ok u) = none
told (Err f) = some (refusal_of f)

-- what is printed behind the number
abbrev pub inside_text : Option ℕ → List ℕ
inside_text none = codes ""
inside_text (some n) = codes ": " ++ decimal n

abbrev pub fault_text : SessionFault → List ℕ
fault_text f = decimal (number_of f) ++ inside_text (inside_of f)
