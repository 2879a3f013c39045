use Rattle.std.proofs.Common.{◌≡◌, ◌<◌, length}
use Rattle.activity.specs.Phases.{phases}
use Rattle.activity.proofs.order.Order.sift_up.Given as goal

abbrev pub invariant-loop-i : goal.invariant-loop-i
invariant-loop-i l = (l.i < length l.self.heap.items) × (l.v < 4096) × (length l.self.heap.items ≡ length l.initial.self.heap.items) × (phases l.self ≡ phases l.initial.self)

abbrev pub decreases-loop-i : goal.decreases-loop-i
decreases-loop-i l = l.i
