-- How a result crosses to C. Assumes nothing.
use Rattle.std.specs.Prelude.{◌≡◌, Ok, Err, Result}
use Rattle.syntax.specs.declared.faults.Fault.{Fault}
use Rattle.boundary.specs.declared.faults.LoadFault.{LoadFault}
use Rattle.boundary.specs.declared.faults.LoadFault.TheVariants.{BadProblem}
use Rattle.boundary.specs.declared.status.Status.{Status}
use Rattle.boundary.specs.Faults.{number_of, inside_of, place_of}

abbrev pub status_of : LoadFault → Status
status_of f = record { refusal = number_of f; inside = inside_of f; place = place_of f }

abbrev pub done : Status
done = record { refusal = 0; inside = 0; place = 0 }

-- the value is handed out; with a refusal, what was there stays
abbrev pub Reports : {A : Type 0} → Result A LoadFault → A → A → Status → Type 0
Reports (Ok a) old new s = (s ≡ done) × (new ≡ a)
Reports (Err f) old new s = (s ≡ status_of f) × (new ≡ old)

-- what is told of a check
abbrev pub checked_status : Result (Unit {0}) Fault → Status
checked_status (Ok u) = done
checked_status (Err f) = status_of (BadProblem f)
