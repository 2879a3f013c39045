use Rattle.std.proofs.Common.{◌≡◌, ◌+◌}
use Rattle.decisions.specs.Plans.{Planned}
use Rattle.decisions.proofs.assume.Given as goal

abbrev pub invariant-loop-g : goal.invariant-loop-g
invariant-loop-g l = record { planned : Planned l.given l.search.trail.steps.items l.plan; next : l.plan.next ≡ l.initial.plan.next + l.g-index }
