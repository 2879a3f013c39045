-- The room was tested before, so no switch is refused.
use Rattle.std.proofs.Common.{arith}
use Rattle.chooser.specs.Meaning.{Meaning}
use Rattle.sessions.proofs.Starts.{not_refused}
use Rattle.sessions.proofs.beginning.allot_switches.Goals as goal

pub returns-in_err-new_variable : goal.returns-in_err-new_variable
returns-in_err-new_variable g c =
    let M : Meaning = g.C.Chooser.meaning c.loop.chooser in
    let rooms = c.loop.invariant.rooms in
    absurd (not_refused M c.in_err-new_variable.field-0.0 c.in_err-new_variable.ensures.1 (omega (arith, rooms)))
