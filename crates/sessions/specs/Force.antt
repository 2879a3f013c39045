-- What a call makes of a session and of each state that it shows. Assumes nothing.
use Rattle.std.specs.Prelude.{◌≡◌, ℕ, Bool, false, slice_set, Result, OnErr}
use Rattle.std.proofs.Math.Option.{Option}
use Rattle.histories.specs.States.{State}
use Rattle.histories.specs.Calls.{Refusal}
use Rattle.sessions.specs.declared.session.Begun.{Begun}
use Rattle.sessions.specs.declared.session.Session.{Session}
use Rattle.sessions.specs.declared.faults.SessionFault.{SessionFault}
use Rattle.sessions.specs.Faults.{told}
use Rattle.sessions.specs.Shown.{Shows}

-- the force of the goal g is set, and no model is at hand
pub record SetsForce (b : Begun) (g : ℕ) (force : Bool) (b' : Begun) : Type 0 where
  pub goals : b'.goals ≡ b.goals
  pub sets : b'.force ≡ slice_set b.force g force
  pub table : b'.table ≡ b.table
  pub count : b'.count ≡ b.count
  pub left : b'.left ≡ b.left
  pub model : b'.model ≡ false

-- The call is refused as `refusal` says, and the session then shows what `after` says; a refused call changes nothing.
pub record Makes {U : Type 0} (refusal : State → Option Refusal) (after : State → State) (s s' : Session) (r : Result U SessionFault) : Type 0 where
  pub refuses : (S : State) → Shows s S → told r ≡ refusal S
  pub shows : (S : State) → Shows s S → Shows s' (after S)
  pub kept : OnErr r (s' ≡ s)
