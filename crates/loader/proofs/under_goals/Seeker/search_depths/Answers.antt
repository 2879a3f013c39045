-- The limits were tested, and what is lent suffices; so each search is answered, and the answer is written behind the others.
use Rattle.std.proofs.Common.{rules, refl, sym, ap, ◌∙◌, subst, slice_set, arith}
use Rattle.problem.specs.Meant.{meant}
use Rattle.loader.specs.Depths.{Deepened}
use Rattle.loader.proofs.PastDepths.{past_none, step_here, past_more, ended, all_through}
use Rattle.loader.proofs.under_goals.Seeker.search_depths.Goals as goal

pub loop-searched-init : goal.loop-searched-init
loop-searched-init g c =
    (record { places = refl; literals = refl }, refl, refl, past_none (meant c.args.self.now.problem.now) _ c.args.self.now.request c.requires.put)

pub returns-then-not-goes_on : goal.returns-then-not-goes_on
returns-then-not-goes_on g c =
    let i = c.loop-searched.invariant in
    let ordered = c.requires.admits.ordered in
    let fit = c.requires.admits.answers_fit in
    let test = c.loop-searched-test.true in
    let w =
    step_here _ _ _ i.3 c.args.way.now c.loop-searched.way c.requires.places c.requires.way c.requires.literals i.0 i.1
    c.in-Ok.answer c.in-Ok.ensures.searched in
    ended _ _ _ i.3 w (omega (arith, test, ordered)) (omega (arith, test, fit)) (sym c.goes_on.ensures ∙ search rules)
    (ap (λ d. slice_set c.loop-searched.answers c.loop-searched.searched d) c.of.ensures)

pub loop-searched-preserved : goal.loop-searched-preserved
loop-searched-preserved g c =
    let i = c.loop-searched.invariant in
    let ordered = c.requires.admits.ordered in
    let fit = c.requires.admits.answers_fit in
    let test = c.loop-searched-test.true in
    let w =
    step_here _ _ _ i.3 c.args.way.now c.loop-searched.way c.requires.places c.requires.way c.requires.literals i.0 i.1
    c.in-Ok.answer c.in-Ok.ensures.searched in (
      record { places = c.search.ensures.kept.places ∙ i.0.places; literals = c.search.ensures.kept.literals ∙ i.0.literals },
      search rules,
      search rules,
      past_more _ _ _ i.3 w (omega (arith, test, ordered)) (omega (arith, test, fit)) (sym c.goes_on.ensures ∙ search rules)
          (ap (λ d. slice_set c.loop-searched.answers c.loop-searched.searched d) c.of.ensures),
    )

pub returns : goal.returns
returns g c =
    let r = c.args.self.now.request in
    let test = c.loop-searched-test.false in
    let end = c.loop-searched.auto.searched-end in
    let ordered = c.requires.admits.ordered in
    subst (Deepened (meant c.args.self.now.problem.now) _ r c.args.answers.now c.loop-searched.answers c.loop-searched.session _)
    (omega (arith, test, end)) (all_through (meant c.args.self.now.problem.now) _ r c.loop-searched.invariant.3 (omega (arith, test, ordered)))
