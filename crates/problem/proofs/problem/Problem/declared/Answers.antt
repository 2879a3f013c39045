use Rattle.std.proofs.Common.{vec_items}
use Rattle.kept.proofs.Filling.{declared_same}
use Rattle.problem.specs.Meant.{held}
use Rattle.problem.proofs.problem.Problem.declared.Goals as goal

pub returns : goal.returns
returns c =
    let p = c.args.self.now in
    let t = p.tables in
    let e = c.signature.ensures in
    declared_same c.signature.result (held p) (vec_items t.types) (vec_items t.functions) (vec_items t.unknowns) (vec_items t.goals) (vec_items t.least) p.holds
    e.types e.functions e.unknowns
