use Rattle.std.proofs.Common.{length, refl, ap, ◌∙◌, arith}
use Rattle.syntax.specs.Problems.{sig_of}
use Rattle.problem.specs.Meant.{meant}
use Rattle.telling.proofs.Unknowns.{left_all, left_room, left_less, left_none}
use Rattle.telling.proofs.page.Page.model.Goals as goal

pub loop-unknown-init : goal.loop-unknown-init
loop-unknown-init c = record {
  low = omega arith;
  same = refl;
  short = omega (arith, c.requires.empty);
  tells = λ ps w. left_all (meant c.args.model.now.problem.now) c.args.model.now.bytes.now ps c.args.self.now w;
}

pub value-place-requires-clause-low : goal.value-place-requires-clause-low
value-place-requires-clause-low c =
    let count = ap length c.unknown_types-unknown-end.ensures.is in
    left_room (sig_of (meant c.args.model.now.problem.now)) c.args.model.now.bytes.now
    (c.loop-unknown.invariant.tells c.requires.read.parts c.requires.read.writes) (omega (arith, count, c.loop-unknown-test.true))

pub loop-unknown-preserved : goal.loop-unknown-preserved
loop-unknown-preserved c =
    let inv = c.loop-unknown.invariant in
    let count = ap length c.unknown_types-unknown-end.ensures.is in
    record {
      low = c.value-place.ensures.within.1;
      same = c.text-in-loop-unknown.ensures.same ∙ c.value-place.ensures.same ∙ c.text.ensures.same ∙ c.labelled.ensures.same ∙ inv.same;
      short = omega (arith, inv.short, c.labelled.ensures.count, c.text.ensures.count, c.value-place.ensures.short, c.text-in-loop-unknown.ensures.count);
      tells = λ ps w.
          left_less (sig_of (meant c.args.model.now.problem.now)) c.args.model.now.bytes.now (inv.tells ps w) (omega (arith, count, c.loop-unknown-test.true))
          c.labelled.ensures.adds c.text.ensures.adds c.value-place.ensures.tells c.text-in-loop-unknown.ensures.adds;
    }

pub returns-clause-tells : goal.returns-clause-tells
returns-clause-tells c ps w =
    let count = ap length c.unknown_types-unknown-end.ensures.is in
    left_none (sig_of (meant c.args.model.now.problem.now)) c.args.model.now.bytes.now (c.loop-unknown.invariant.tells ps w)
    (omega (arith, count, c.loop-unknown-test.false))
