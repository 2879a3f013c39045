use Rattle.std.proofs.Common.{arith}
use Rattle.held.specs.Reading.{Reads}
use Rattle.held.proofs.Standing.{row_of_unknowns}
use Rattle.held.proofs.memory.Memory.hold_unknowns.Goals as goal

pub returns-clause-row : goal.returns-clause-row
returns-clause-row c x =
    row_of_unknowns (Reads x) c.loop-unknown.self.places.now c.loop-unknown.self.top c.args.self.now.top c.args.unknowns.now (omega arith)
    (λ k h. c.loop-unknown.invariant.held k (omega arith))
