use Rattle.std.proofs.Common.{◌≡◌, length, ap, ◌∙◌, subst, arith}
use Rattle.std.specs.Prelude.{decimal}
use Rattle.syntax.specs.Problems.{sig_of}
use Rattle.problem.specs.Meant.{meant}
use Rattle.telling.specs.Pages.{Adds}
use Rattle.telling.specs.Shown.{closing}
use Rattle.telling.proofs.Values.{value_there, told_open, left_all, left_less, left_none}
use Rattle.telling.proofs.page.Page.+value.Goals as goal
use Rattle.telling.proofs.page.Page.+value.Goals.{then-bytes-place-ne-CONSTRUCTOR-via-then-bytes-place-ne-CONSTRUCTOR, then-bytes-place-ne-CONSTRUCTOR-via-else-bytes-place-ne-CONSTRUCTOR+then-place-bytes-2}

pub returns-then-place-bytes-clause-tells : goal.returns-then-place-bytes-clause-tells
returns-then-place-bytes-clause-tells g c t v rest at =
    let there = value_there (sig_of (meant c.args.model.now.problem.now)) c.args.model.now.bytes.now c.args.place t v rest at in
    absurd (omega (arith, there, c.if-place-bytes.true))

pub returns-then-bytes-place-ne-CONSTRUCTOR-clause-tells :
    goal.returns-then-bytes-place-ne-CONSTRUCTOR-clause-tells
returns-then-bytes-place-ne-CONSTRUCTOR-clause-tells g c t v rest at =
    told_open (sig_of (meant c.args.model.now.problem.now)) c.args.model.now.bytes.now c.args.place t v rest at
    (λ two.
    elim c.then-bytes-place-ne-CONSTRUCTOR.branch [
      | then-bytes-place-ne-CONSTRUCTOR-via-then-bytes-place-ne-CONSTRUCTOR w ↦ absurd (w.if-bytes-place-ne-CONSTRUCTOR.true two)
      | then-bytes-place-ne-CONSTRUCTOR-via-else-bytes-place-ne-CONSTRUCTOR+then-place-bytes-2 w ↦ omega (arith, w.if-place-bytes-2)
    ])
    c.text.ensures.adds

pub loop-argument-init : goal.loop-argument-init
loop-argument-init g c = record {
  after = omega arith;
  low = omega (arith, c.if-place-bytes-2.false);
  same = c.number.ensures.same;
  short = omega (arith, c.number.ensures.count);
  tells = λ t v rest at.
      left_all (sig_of (meant c.args.model.now.problem.now)) c.args.model.now.bytes.now c.args.place t v rest c.argument_types-types.result.now at
      c.if-bytes-place-ne-CONSTRUCTOR.false c.argument_types-types.ensures.is
      (subst (λ n. Adds c.args.self.now (decimal n) c.number.new.self) c.from.ensures c.number.ensures.adds);
}

pub loop-argument-preserved : goal.loop-argument-preserved
loop-argument-preserved g c =
    let inv = c.loop-argument.invariant in
    record {
      after = omega (arith, inv.after, c.value-end.ensures.within.0);
      low = c.value-end.ensures.within.1;
      same = c.value-end.ensures.same ∙ c.text-in-loop-argument.ensures.same ∙ inv.same;
      short = omega (arith, inv.short, c.value-end.ensures.short, c.text-in-loop-argument.ensures.count, c.open.ensures.short);
      tells = λ t v rest at.
          left_less (sig_of (meant c.args.model.now.problem.now)) c.args.model.now.bytes.now c.args.place t (inv.tells t v rest at) (omega (arith, c.loop-argument-test.true))
          (subst (λ l. Adds c.loop-argument.self l c.text-in-loop-argument.new.self) c.open.ensures.exact c.text-in-loop-argument.ensures.adds)
          c.value-end.ensures.tells;
    }

pub returns-clause-tells : goal.returns-clause-tells
returns-clause-tells g c t v rest at =
    let all : length c.argument_types-types.result.now ≡ c.loop-argument.argument = omega (arith, c.loop-argument-test.false, c.loop-argument.auto.argument-end) in
    left_none (sig_of (meant c.args.model.now.problem.now)) c.args.model.now.bytes.now c.args.place t (c.loop-argument.invariant.tells t v rest at) (omega (arith, all))
    (subst (λ l. Adds c.loop-argument.self l c.text-2.new.self) (c.close.ensures.exact ∙ ap closing all) c.text-2.ensures.adds)
