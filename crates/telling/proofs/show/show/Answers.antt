use Rattle.std.proofs.Common.{rules, [], Err, sym, refl, ap, ◌∙◌, subst, arith}
use Rattle.std.proofs.lemmas.Result.{err_from_is_err_and}
use Rattle.problem.specs.Meant.{meant}
use Rattle.model.specs.Partial.{Writes}
use Rattle.model.specs.Exact.{ModelIn}
use Rattle.telling.specs.declared.faults.TellFault.{TellFault}
use Rattle.telling.specs.Shown.{model_text}
use Rattle.telling.proofs.Pages.{measured, in_full}
use Rattle.telling.proofs.Reading.{shown_refused, shown_told, model_in}
use Rattle.telling.proofs.show.show.Goals as goal

pub returns-in_err-model : goal.returns-in_err-model
returns-in_err-model c =
    let q = err_from_is_err_and c.from_residual.result c.from_residual.ensures.1 in
    shown_refused (meant c.args.problem.now) c.args.model.now c.args.output.now _ c.from_residual.result c.in_err-model.ensures
    (q.1 ∙ ap (λ (e : TellFault). Err e) q.2)

pub model-requires-clause-read : goal.model-requires-clause-read
model-requires-clause-read c =
    let r = c.in_ok-model.ensures in
    subst (λ q. ModelIn (meant q) c.in_ok-model.model.bytes.now) (sym r.2.problem_is)
    (subst (λ bs. ModelIn (meant c.args.problem.now) bs) (sym r.2.bytes_is) (model_in (meant c.args.problem.now) c.args.model.now r.0 r.1))

pub returns-then-measured-output : goal.returns-then-measured-output
returns-then-measured-output c =
    let r = c.in_ok-model.ensures in
    shown_told (meant c.args.problem.now) c.args.model.now c.args.output.now c.args.output.now r.0 _ r.1 (λ ps w.
    let there = subst (λ q. Writes (meant q) c.in_ok-model.model.bytes.now ps) (sym r.2.problem_is)
    (subst (λ bs. Writes (meant c.args.problem.now) bs ps) (sym r.2.bytes_is) w) in
    let long = measured (model_text ps) [] c.new-measured.ensures.holds (c.model.ensures.tells ps there) in
    (refl, omega (arith, long), refl))

pub model-requires-2-clause-read : goal.model-requires-2-clause-read
model-requires-2-clause-read c =
    let r = c.in_ok-model.ensures in
    subst (λ q. ModelIn (meant q) c.in_ok-model.model.bytes.now) (sym r.2.problem_is)
    (subst (λ bs. ModelIn (meant c.args.problem.now) bs) (sym r.2.bytes_is) (model_in (meant c.args.problem.now) c.args.model.now r.0 r.1))

pub returns : goal.returns
returns c =
    let r = c.in_ok-model.ensures in
    shown_told (meant c.args.problem.now) c.args.model.now c.args.output.now _ r.0 _ r.1 (λ ps w.
    let there = subst (λ q. Writes (meant q) c.in_ok-model.model.bytes.now ps) (sym r.2.problem_is)
    (subst (λ bs. Writes (meant c.args.problem.now) bs ps) (sym r.2.bytes_is) w) in
    let long = measured (model_text ps) [] c.new-measured.ensures.holds (c.model.ensures.tells ps there) in
    let count = measured (model_text ps) c.args.output.now c.new-page.ensures.holds (c.model-2.ensures.tells ps there) in
    let held = in_full (model_text ps) c.args.output.now c.new-page.ensures.holds (c.model-2.ensures.tells ps there) (omega (arith, long)) in
    (count, search (rules, held, count)))
