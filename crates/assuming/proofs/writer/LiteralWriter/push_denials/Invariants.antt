-- The unknowns before the next are denied what they are to be.
use Rattle.std.proofs.Common.{◌≡◌, take}
use Rattle.std.specs.List.{flat_map}
use Rattle.problem.specs.Meant.{sig}
use Rattle.assuming.specs.Written.{Pushed}
use Rattle.assuming.specs.Denied.{row_denials}
use Rattle.assuming.proofs.writer.LiteralWriter.push_denials.Given as goal

abbrev pub invariant-loop-unknown : goal.invariant-loop-unknown
invariant-loop-unknown l =
    record {
      same_reference : l.self.literals.ghost_name ≡ l.fn.self.literals.ghost_name;
      pushed : Pushed l.fn.self l.self (flat_map (row_denials (sig l.problem) l.depth) (take l.unknown-index l.unknowns));
    }
