-- The two variables are allotted and the entries of each pair are left, so no pair is refused.
use Rattle.std.proofs.Common.{◌≡◌, subst, arith}
use Rattle.chooser.specs.Meaning.{Meaning}
use Rattle.finder.specs.Clauses.{not_with, Extended}
use Rattle.recording.proofs.Openings.{pair_refused, one_more_pair, one_more_case}
use Rattle.recording.proofs.opening.add_pairs.Goals as goal

pub returns-in_err-add : goal.returns-in_err-add
returns-in_err-add g c =
    absurd
    (pair_refused (g.C.Chooser.meaning c.args.chooser.now) (g.C.Chooser.meaning c.loop-second.chooser) (g.C.Chooser.meaning c.loop-other.chooser)
    c.args.first c.loop-other.other c.loop-second.second c.args.cases c.in_err-add.field-0.0 c.requires.named c.requires.fits
    c.loop-second.invariant c.loop-other.invariant c.loop-other-test.true c.loop-second-test.true c.in_err-add.ensures.1)

pub loop-other-preserved : goal.loop-other-preserved
loop-other-preserved g c =
    one_more_pair (g.C.Chooser.meaning c.loop-second.chooser) (g.C.Chooser.meaning c.loop-other.chooser) (g.C.Chooser.meaning c.add.new.self)
    c.args.first c.loop-other.other c.loop-second.second c.loop-other.invariant c.in_ok-add.ensures

pub loop-second-preserved : goal.loop-second-preserved
loop-second-preserved g c =
    let M : Meaning = g.C.Chooser.meaning c.args.chooser.now in
    let M₁ : Meaning = g.C.Chooser.meaning c.loop-second.chooser in
    let M₂ : Meaning = g.C.Chooser.meaning c.loop-other.chooser in
    let all : c.loop-other.other ≡ c.loop-second.second = omega arith in
    one_more_case M M₁ M₂ c.args.first c.loop-second.second c.loop-second.invariant
    (subst (λ d. Extended M₁ M₂ 0 (not_with c.args.first c.loop-second.second d)) all c.loop-other.invariant)
