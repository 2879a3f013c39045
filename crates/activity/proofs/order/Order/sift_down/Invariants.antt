use Rattle.std.proofs.Common.{◌≡◌, ◌-◌, ◌<◌, length}
use Rattle.activity.proofs.order.Order.sift_down.Given as goal

abbrev pub invariant-loop-c : goal.invariant-loop-c
invariant-loop-c l = (l.i < length l.self.heap.items) × (l.v < 4096) × (length l.self.heap.items ≡ length l.initial.self.heap.items)

abbrev pub decreases-loop-c : goal.decreases-loop-c
decreases-loop-c l = length l.initial.self.heap.items - l.i
