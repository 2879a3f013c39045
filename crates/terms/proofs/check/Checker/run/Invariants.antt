use Rattle.std.proofs.Common.{◌≡◌, ◌+◌, ◌≤◌, length, drop}
use Rattle.syntax.specs.Tables.{declared_in}
use Rattle.reading.specs.Reading.{reads, reading, verdict}
use Rattle.terms.specs.Tasks.{put, Piled, NoneLeft, stack_of}
use Rattle.terms.specs.Stacks.{on, room}
use Rattle.terms.proofs.Checking.{answer}
use Rattle.terms.proofs.check.Checker.run.Given as goal

abbrev pub invariant-loop-at : goal.invariant-loop-at
invariant-loop-at l =
    (length (put l.next (on l.stack)) ≤ l.at + 1)
    × (declared_in l.context.sig ≡ l.fn.self)
    × Piled l.fn.self (put l.next (on l.stack)) 64
    × NoneLeft l.next (on l.stack)
    × (verdict (reading l.fn.self l.variables l.wanted l.base l.bytes)
    ≡ answer (reads l.fn.self (stack_of l.fn.self l.context.scope (put l.next (on l.stack))) (drop l.at l.bytes) (l.base + l.at)))
    × (room l.stack ≡ length l.fn.tasks)
