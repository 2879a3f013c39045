use Rattle.propagate.specs.Uses.{Noted}
use Rattle.propagate.proofs.watches.Watches.note_use.Given as goal

abbrev pub invariant-loop-step : goal.invariant-loop-step
invariant-loop-step l = Noted l.initial.self l.self l.trail.steps.items l.seen l.step-index l.now
