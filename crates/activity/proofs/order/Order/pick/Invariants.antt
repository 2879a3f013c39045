use Rattle.std.proofs.Common.{length}
use Rattle.activity.proofs.order.Order.pick.Given as goal

abbrev pub decreases-loop-v : goal.decreases-loop-v
decreases-loop-v l = length l.self.heap.items
