use Rattle.std.proofs.Common.{◌≤◌, length}
use Rattle.activity.specs.Cuts.{Kept}
use Rattle.activity.proofs.unwind.Given as goal

abbrev pub invariant-loop-order : goal.invariant-loop-order
invariant-loop-order l = (l.k ≤ length l.search.trail.steps.items) × Kept l.initial.search l.search (length l.search.trail.steps.items)

abbrev pub decreases-loop-order : goal.decreases-loop-order
decreases-loop-order l = length l.search.trail.steps.items
