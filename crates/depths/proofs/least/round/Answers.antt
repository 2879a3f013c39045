use Rattle.std.proofs.Common.{◌<◌, ◌≤◌, length, sym, subst, arith}
use Rattle.std.proofs.lemmas.List.{length-map}
use Rattle.syntax.specs.Tables.{declared_in}
use Rattle.depths.specs.Needs.{need_in, Easiest}
use Rattle.depths.proofs.Entries.{cases_at}
use Rattle.depths.proofs.Rounds.{stored, next_round}
use Rattle.depths.proofs.least.round.Goals as goal

pub loop-t-preserved : goal.loop-t-preserved
loop-t-preserved c k known =
    let least = c.loop-t.least in
    let m = c.easiest.result in
    let low : c.loop-t.t < length least = omega arith in
    let at = cases_at c.args.sig.types.now c.loop-t.t c.loop-t-test.true in
    stored (declared_in c.args.sig) least k c.loop-t.t (c.loop-t.invariant k known) m low
    (subst (λ cs. Easiest (need_in least cs) (length cs) m) (sym at) c.easiest.ensures)

pub returns : goal.returns
returns c k known =
    let all : length (declared_in c.args.sig).types ≤ c.loop-t.t = simp length-map c.loop-t-test.false in
    next_round (declared_in c.args.sig) c.loop-t.least k c.loop-t.t (c.loop-t.invariant k known) all
