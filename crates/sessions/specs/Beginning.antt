-- How a session begins. Assumes nothing.
use Rattle.std.specs.Prelude.{◌≡◌, ℕ, ◌<◌, ◌≤◌, Bool, true, false, ◌⊎◌, [], Ok, Err, Result}
use Rattle.chooser.specs.Meaning.{Meaning, Same}
use Rattle.chooser.specs.declared.Fault.{Fault}
use Rattle.chooser.specs.declared.Fault.TheVariants.{NoVariable}
use Rattle.syntax.specs.Problems.{Problem}
use Rattle.finder.specs.Ways.{Way}
use Rattle.finder.specs.Clauses.{Extended}
use Rattle.histories.specs.States.{State}
use Rattle.histories.specs.Calls.{Begins}
use Rattle.sessions.specs.declared.session.Session.{Session}
use Rattle.sessions.specs.declared.faults.SessionFault.{SessionFault}
use Rattle.sessions.specs.Faults.{told}
use Rattle.sessions.specs.Shown.{Shows}

-- whether a chooser has no variables and allows its one way
abbrev pub IsNew : Meaning → Bool → Type 0
IsNew M true = (M.count ≡ 0) × ((w : Way) → M.ways w ≡ true)
IsNew M false = (0 < M.count) ⊎ ((w : Way) → M.ways w ≡ false)

-- the allotting of so many switches
abbrev pub Switches : {U : Type 0} → Meaning → Meaning → ℕ → Result U Fault → Type 0
Switches M M' goals (Ok u) = (goals ≤ M.room) × Extended M M' goals []
Switches M M' goals (Err e) = (M.room < goals) × Same M M' × (e ≡ NoVariable)

-- `begin` from the state S, by the relation of that call
pub record Began {U : Type 0} (p : Problem) (S : State) (M : Meaning) (s' : Session) (M' : Meaning) (r : Result U SessionFault) : Type 0 where
  pub state : State
  pub begins : Begins p S M (told r) state M'
  pub shows : Shows s' state
