use Rattle.std.proofs.Common.{Err, get_or, refl, sym, ap, ◌∙◌}
use Rattle.std.proofs.lemmas.Result.{err_from_is_err_and}
use Rattle.syntax.proofs.Entries.{no_callable}
use Rattle.syntax.specs.Tables.{declared_in}
use Rattle.verdict.proofs.Checks.{same_reading, body_passed, body_refused, bodies_done, goal_passed, goal_refused, goals_done, no_span, terms_passed, terms_refused}
use Rattle.verdict.proofs.checked_terms.check_terms.Goals as goal

pub returns-in_err-check_term : goal.returns-in_err-check_term
returns-in_err-check_term c =
    let sig = declared_in c.args.sig in
    let bs = c.args.bytes.now in
    let fs = c.args.sig.functions.now in
    let i = c.loop-function.function-index in
    let f = get_or fs i no_callable in
    let p = err_from_is_err_and c.from_residual.result c.from_residual.ensures.1 in
    let e = c.in_err-check_term.field-0.0 in
    let read = c.in_err-check_term.ensures.exact ∙ same_reading f.result f.body.start c.loop-function.invariant.0 c.types-variables.ensures.is c.part-body.ensures in
    p.1 ∙ (ap Err p.2 ∙ sym (terms_refused sig bs fs c.args.goals.now e
    (sym (c.loop-function.invariant.1 ∙ body_refused sig bs fs i no_callable c.loop-function-test.true e read))))

pub loop-function-preserved : goal.loop-function-preserved
loop-function-preserved c =
    let sig = declared_in c.args.sig in
    let bs = c.args.bytes.now in
    let fs = c.args.sig.functions.now in
    let i = c.loop-function.function-index in
    let f = get_or fs i no_callable in
    let read = c.in_ok-check_term.ensures.exact ∙ same_reading f.result f.body.start c.loop-function.invariant.0 c.types-variables.ensures.is c.part-body.ensures in (
      c.check_term.ensures.same ∙ c.loop-function.invariant.0,
      c.loop-function.invariant.1 ∙ body_passed sig bs fs i no_callable c.loop-function-test.true read,
    )

pub loop-goal-init : goal.loop-goal-init
loop-goal-init c =
    let sig = declared_in c.args.sig in
    let bs = c.args.bytes.now in
    let fs = c.args.sig.functions.now in (
      c.loop-function.invariant.0,
      terms_passed sig bs fs c.args.goals.now (sym (c.loop-function.invariant.1 ∙ bodies_done sig bs fs c.loop-function.function-index c.loop-function-test.false)),
    )

pub returns-in_err-check_term-2 : goal.returns-in_err-check_term-2
returns-in_err-check_term-2 c =
    let sig = declared_in c.args.sig in
    let bs = c.args.bytes.now in
    let gs = c.args.goals.now in
    let i = c.loop-goal.goal-index in
    let p = err_from_is_err_and c.from_residual-in_err-check_term-2.result c.from_residual-in_err-check_term-2.ensures.1 in
    let e = c.in_err-check_term-2.field-0.0 in
    let read = c.in_err-check_term-2.ensures.exact ∙ same_reading 0 (get_or gs i no_span).start c.loop-goal.invariant.0 refl c.part-term.ensures in
    p.1 ∙ (ap Err p.2 ∙ sym (c.loop-goal.invariant.1 ∙ goal_refused sig bs gs i no_span c.loop-goal-test.true e read))

pub loop-goal-preserved : goal.loop-goal-preserved
loop-goal-preserved c =
    let sig = declared_in c.args.sig in
    let bs = c.args.bytes.now in
    let gs = c.args.goals.now in
    let i = c.loop-goal.goal-index in
    let read = c.in_ok-check_term-2.ensures.exact ∙ same_reading 0 (get_or gs i no_span).start c.loop-goal.invariant.0 refl c.part-term.ensures in (
      c.check_term-in-loop-goal.ensures.same ∙ c.loop-goal.invariant.0,
      c.loop-goal.invariant.1 ∙ goal_passed sig bs gs i no_span c.loop-goal-test.true read,
    )

pub returns : goal.returns
returns c =
    sym (c.loop-goal.invariant.1
    ∙ goals_done (declared_in c.args.sig) c.args.bytes.now c.args.goals.now c.loop-goal.goal-index c.loop-goal-test.false)
