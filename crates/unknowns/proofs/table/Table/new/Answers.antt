-- A lawful problem has few unknowns.
use Rattle.std.proofs.Common.{length, map, ap, ◌∙◌, arith}
use Rattle.problem.specs.Meant.{meant}
use Rattle.unknowns.specs.Opening.{unopened}
use Rattle.problem.proofs.Lawfulness.{lawful}
use Rattle.unknowns.proofs.Beginning.{begins}
use Rattle.unknowns.proofs.table.Table.new.Goals as goal

pub append-requires : goal.append-requires
append-requires c =
    let few = (lawful c.args.problem.now).few_unknowns in
    let same = ap length c.unknowns.ensures.is in
    omega (arith, few, same)

pub returns : goal.returns
returns c =
    let same = ap length c.unknowns.ensures.is in
    let long = c.append.ensures.len in
    begins (meant c.args.problem.now) c.append.new.self (omega (arith, same, long))
    (c.append.ensures.rows ∙ ap (map (unopened 1)) c.unknowns.ensures.is)
