use Rattle.std.proofs.Common.{◌-◌}
use Rattle.propagate.specs.Visits.{Onward}
use Rattle.propagate.proofs.watches.Watches.propagate.Given as goal

abbrev pub invariant-loop-queue : goal.invariant-loop-queue
invariant-loop-queue l = Onward l.initial.search l.search

abbrev pub decreases-loop-queue : goal.decreases-loop-queue
decreases-loop-queue l = 4096 - l.queue
