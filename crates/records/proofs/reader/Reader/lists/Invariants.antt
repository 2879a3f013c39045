use Rattle.std.proofs.Common.{◌≡◌}
use Rattle.records.specs.Readers.{ahead_of}
use Rattle.records.proofs.Runs.{Listed}
use Rattle.records.proofs.reader.Reader.lists.Given as goal

abbrev pub invariant-loop : goal.invariant-loop
invariant-loop l =
    (l.ahead.bytes.now ≡ l.self.bytes.now)
    × Listed l.mark l.count l.counter (ahead_of l.self) l.self.at (ahead_of l.ahead) l.ahead.at
