-- The switches of the goals below the next are written.
use Rattle.std.proofs.Common.{◌≡◌}
use Rattle.finder.specs.Asking.{switches_on}
use Rattle.unknowns.specs.Force.{forced}
use Rattle.assuming.specs.Written.{Pushed}
use Rattle.assuming.proofs.writer.LiteralWriter.push_switches.Given as goal

abbrev pub invariant-loop-goal : goal.invariant-loop-goal
invariant-loop-goal l =
    record {
      same_reference : l.self.literals.ghost_name ≡ l.fn.self.literals.ghost_name;
      pushed : Pushed l.fn.self l.self (switches_on (forced l.fn.force) l.goal);
    }
