use Rattle.std.proofs.Common.{◌<◌, length, ap, ◌∙◌, arith}
use Rattle.syntax.specs.Tables.{declared_in}
use Rattle.depths.specs.Needs.{need_by, need_in, Filled}
use Rattle.depths.proofs.Filling.{row_more}
use Rattle.depths.proofs.Rounds.{need_right}
use Rattle.depths.proofs.needs.fill_needs.Goals as goal

pub loop-t-preserved : goal.loop-t-preserved
loop-t-preserved c =
    let least = c.args.least.now in
    let low : c.loop-t.t < length c.loop-t.needs = omega arith in
    row_more (need_by (declared_in c.args.sig) least) c.loop-t.needs c.loop-t.t c.needs_of.result low c.loop-t.invariant
    (λ k few. c.needs_of.ensures k few ∙ ap (λ cs. need_in least cs k) c.cases.ensures.is)

pub returns : goal.returns
returns c =
    let by : Filled (need_by (declared_in c.args.sig) c.args.least.now) c.loop-t.needs = λ t k low few. c.loop-t.invariant t (omega arith) k few in
    record { by = by; is = λ right t k low few. by t k low few ∙ need_right (declared_in c.args.sig) c.args.least.now right t k }
