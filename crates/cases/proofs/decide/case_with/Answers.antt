use Rattle.std.proofs.Common.{length, refl, ap, arith}
use Rattle.problem.proofs.Lawfulness.{lawful}
use Rattle.judge.proofs.Limits.{arguments_few}
use Rattle.cases.proofs.decide.case_with.Goals as goal

pub overflow_cast-result : goal.overflow_cast-result
overflow_cast-result c =
    let few = arguments_few (lawful c.args.problem.now) c.args.ty c.args.constructor in
    let same = ap length c.arguments-arguments.ensures.is in
    omega (arith, few, same)

pub invariant_of-result : goal.invariant_of-result
invariant_of-result c =
    let few = arguments_few (lawful c.args.problem.now) c.args.ty c.args.constructor in
    let same = ap length c.arguments-arguments.ensures.is in
    record { few = omega (arith, few, same) }

pub returns : goal.returns
returns c =
    record {
      constructor = refl;
      count = ap length c.arguments-arguments.ensures.is;
      kids_at = omega (arith, c.saturating_add.ensures, c.children_before-before.ensures);
      low = omega arith;
    }
