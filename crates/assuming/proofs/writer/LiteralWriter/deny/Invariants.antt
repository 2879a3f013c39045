-- The cases below the next are denied.
use Rattle.std.proofs.Common.{◌≡◌}
use Rattle.problem.specs.Meant.{sig}
use Rattle.assuming.specs.Written.{Pushed}
use Rattle.assuming.specs.Denied.{row_cases}
use Rattle.assuming.proofs.writer.LiteralWriter.deny.Given as goal

abbrev pub invariant-loop-case : goal.invariant-loop-case
invariant-loop-case l =
    record {
      same_reference : l.self.literals.ghost_name ≡ l.fn.self.literals.ghost_name;
      pushed : Pushed l.fn.self l.self (row_cases (sig l.problem) l.depth l.unknown l.first l.case);
    }
