use Rattle.std.proofs.Common.{arith}
use Rattle.verdict.specs.declared.workspace.Workspace.{Workspace}
use Rattle.kept.proofs.Filling.{holds_fronts}
use Rattle.kept.proofs.fill.examined.Goals as goal

pub copied-requires : goal.copied-requires
copied-requires c =
    let t = c.in-Ok.ensures.tabled in
    let w = t.within in
    record {
      of_types = omega (arith, t.types_count, w.few_types);
      of_functions = omega (arith, t.functions_count, w.few_functions);
      of_unknowns = omega (arith, t.unknowns_count, w.few_unknowns);
      of_goals = omega (arith, t.goals_count, w.few_goals);
    }

pub returns : goal.returns
returns c =
    let x = c.examine.new in
    let w : Workspace = record { tables = record { types = x.types; functions = x.functions; unknowns = x.unknowns; goals = x.goals }; least = x.least } in
    holds_fronts c.args.bytes.now w c.in-Ok.counts c.in_ok-tables.tables c.in-Ok.ensures c.in_ok-tables.ensures
