use Rattle.std.proofs.Common.{ap}
use Rattle.std.proofs.Math.Seq.{map-set_same}
use Rattle.activity.proofs.order.Order.seat.Goals as goal

pub returns-clause-phases : goal.returns-clause-phases
returns-clause-phases c = map-set_same (λ v. v.phase) c.args.self.now.variables.items c.args.v _ _ (ap (λ v. v.phase) c.index_mut-2.ensures.value)
