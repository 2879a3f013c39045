-- What was written is what is asked.
use Rattle.std.proofs.Common.{rules}
use Rattle.problem.specs.Meant.{meant}
use Rattle.assuming.proofs.Assumes.{assumes}
use Rattle.assuming.proofs.assume.Goals as goal

pub returns-clause-says : goal.returns-clause-says
returns-clause-says c =
    let writer = c.new-writer in
    rw (c.len-switches.ensures, c.len.ensures, ← writer.ensures.literals)
    (assumes (meant c.args.problem.now) c.args.table.now c.args.force.now c.args.depth writer.result c.push_switches.new.self c.push_denials.new.self _
    writer.ensures.len c.push_switches.ensures.pushed c.push_denials.ensures.pushed (search rules))
