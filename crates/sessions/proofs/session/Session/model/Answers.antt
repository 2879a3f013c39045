-- What writing came to is what the call comes to.
use Rattle.std.proofs.Common.{Ok, Err, refl, ap, ◌∙◌, subst}
use Rattle.std.proofs.lemmas.Result.{err_from_is_err_and}
use Rattle.problem.specs.Meant.{meant}
use Rattle.problem.proofs.Lawfulness.{lawful}
use Rattle.sessions.specs.Shown.{ShowsIn}
use Rattle.sessions.proofs.Handing.{modelled_so}
use Rattle.sessions.proofs.session.Session.model.Goals as goal

pub returns-in_err-write_model-in-Some-clause-modelled : goal.returns-in_err-write_model-in-Some-clause-modelled
returns-in_err-write_model-in-Some-clause-modelled c =
    let f = err_from_is_err_and c.from_residual.result c.from_residual.ensures.1 in
    λ S h.
    modelled_so (meant c.args.problem.now) (lawful c.args.problem.now) S c.in-Some.begun _ _ c.write_model.auto.output c.if-begun.true
    (Err c.in_err-write_model-in-Some.field-0.0) c.in_err-write_model-in-Some.ensures.writes (subst (λ o. ShowsIn o S) c.in-Some.is h) _ (f.1 ∙ ap Err f.2)

pub returns-in_ok-write_model-in-Some-clause-modelled : goal.returns-in_ok-write_model-in-Some-clause-modelled
returns-in_ok-write_model-in-Some-clause-modelled c =
    λ S h.
    modelled_so (meant c.args.problem.now) (lawful c.args.problem.now) S c.in-Some.begun _ _ c.write_model.auto.output c.if-begun.true
    (Ok c.in_ok-write_model-in-Some.field-0) c.in_ok-write_model-in-Some.ensures.writes (subst (λ o. ShowsIn o S) c.in-Some.is h) _ refl
