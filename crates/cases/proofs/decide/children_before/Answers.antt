use Rattle.std.proofs.Common.{length, sym, ap, ◌∙◌, arith}
use Rattle.syntax.specs.Problems.{sig_of}
use Rattle.syntax.specs.Typing.{cases_of}
use Rattle.problem.specs.Meant.{meant}
use Rattle.places.specs.Places.{offset}
use Rattle.problem.proofs.Lawfulness.{lawful}
use Rattle.judge.proofs.Limits.{arguments_few}
use Rattle.cases.proofs.Offsets.{none_before, one_more}
use Rattle.cases.proofs.decide.children_before.Goals as goal

pub loop-earlier-init : goal.loop-earlier-init
loop-earlier-init c =
    record { is = sym (none_before (cases_of (sig_of (meant c.args.problem.now)) c.args.ty)); few = omega arith }

pub overflow_cast-before : goal.overflow_cast-before
overflow_cast-before c =
    let few = arguments_few (lawful c.args.problem.now) c.args.ty c.loop-earlier.earlier in
    let same = ap length c.arguments.ensures.is in
    omega (arith, few, same)

pub overflow_add-before : goal.overflow_add-before
overflow_add-before c =
    let few = arguments_few (lawful c.args.problem.now) c.args.ty c.loop-earlier.earlier in
    let same = ap length c.arguments.ensures.is in
    omega (arith, few, same)

pub loop-earlier-preserved : goal.loop-earlier-preserved
loop-earlier-preserved c =
    let few = arguments_few (lawful c.args.problem.now) c.args.ty c.loop-earlier.earlier in
    let same = ap length c.arguments.ensures.is in
    let more = one_more (cases_of (sig_of (meant c.args.problem.now)) c.args.ty) c.loop-earlier.earlier in
    record { is = omega (arith, same, more); few = omega (arith, few, same) }

pub returns : goal.returns
returns c =
    c.loop-earlier.invariant.is ∙ ap (offset (cases_of (sig_of (meant c.args.problem.now)) c.args.ty)) (omega arith)
