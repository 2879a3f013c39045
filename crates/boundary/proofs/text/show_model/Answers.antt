-- The text is that of the problem that the bytes are.
use Rattle.std.proofs.Common.{Ok, Err, refl, sym, ap, ◌∙◌, subst}
use Rattle.std.proofs.lemmas.Result.{err_from_is_err_and}
use Rattle.telling.specs.Shown.{Shown}
use Rattle.boundary.specs.Texts.{Showed}
use Rattle.boundary.proofs.Verdicts.{ok_of, meant_of, show_failed}
use Rattle.boundary.proofs.text.show_model.Goals as goal

pub returns-in_err-problem : goal.returns-in_err-problem
returns-in_err-problem c =
    let bs = c.args.bytes.now in
    let f = err_from_is_err_and c.from_residual.result c.from_residual.ensures.1 in
    subst (Showed bs c.args.model.now c.args.output.now c.args.output.now) (sym (f.1 ∙ ap Err f.2))
    (show_failed bs c.args.model.now c.args.output.now c.args.output.now c.in_err-problem.field-0.0 c.in_err-problem.ensures refl)

pub returns-in_err-show : goal.returns-in_err-show
returns-in_err-show c =
    let bs = c.args.bytes.now in
    let f = err_from_is_err_and c.from_residual-in_err-show.result c.from_residual-in_err-show.ensures.1 in
    subst (Showed bs c.args.model.now c.args.output.now c.show.new.output) (sym (f.1 ∙ ap Err f.2)) (
      ok_of bs c.in_ok-problem.problem c.in_ok-problem.ensures,
      subst (λ p. Shown p c.args.model.now c.args.output.now c.show.new.output (Err c.in_err-show.field-0.0))
          (meant_of bs c.in_ok-problem.problem c.in_ok-problem.ensures) c.in_err-show.ensures,
    )

pub returns : goal.returns
returns c =
    let bs = c.args.bytes.now in (
      ok_of bs c.in_ok-problem.problem c.in_ok-problem.ensures,
      subst (λ p. Shown p c.args.model.now c.args.output.now c.show.new.output (Ok c.in_ok-show.field-0))
          (meant_of bs c.in_ok-problem.problem c.in_ok-problem.ensures) c.in_ok-show.ensures,
    )
