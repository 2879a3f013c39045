use Rattle.std.proofs.Common.{◌-◌}
use Rattle.models.proofs.Walking.{Walked}
use Rattle.models.proofs.writing.Decided.+write_value.Given as goal

abbrev pub decreases-write_value : goal.decreases-write_value
decreases-write_value l = 512 - l.place

abbrev pub invariant-loop-child : goal.invariant-loop-child
invariant-loop-child l = Walked l.self.table.now l.self.cases.now l.place l.fn.bytes.items l.bytes.items l.child
