use Rattle.std.proofs.Common.{◌≡◌}
use Rattle.held.specs.Standing.{down}
use Rattle.held.proofs.memory.Memory.walk.Given as goal

abbrev pub invariant-loop : goal.invariant-loop
invariant-loop l = l.link ≡ down l.self.places.now l.fn.env l.counter
