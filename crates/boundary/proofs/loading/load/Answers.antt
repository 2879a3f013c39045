-- The check comes first; what is taken then is the problem that the bytes are.
use Rattle.std.proofs.Common.{Err, sym, ap, ◌∙◌, subst}
use Rattle.std.proofs.lemmas.Result.{err_from_is_err_and}
use Rattle.verdict.specs.Verdict.{verdict}
use Rattle.boundary.specs.Loading.{Loaded}
use Rattle.boundary.proofs.Verdicts.{refused_by, accepted_by, loaded_so}
use Rattle.boundary.proofs.loading.load.Goals as goal

pub returns-in_err-check : goal.returns-in_err-check
returns-in_err-check c =
    let bs = c.args.bytes.now in
    let f = err_from_is_err_and c.from_residual.result c.from_residual.ensures.1 in
    subst (Loaded bs) (sym (f.1 ∙ ap Err f.2)) (refused_by (verdict bs) c.in_err-check.field-0.0 c.in_err-check.ensures.exact)

pub returns-in_err-take : goal.returns-in_err-take
returns-in_err-take c =
    let bs = c.args.bytes.now in
    let f = err_from_is_err_and c.from_residual-in_err-take.result c.from_residual-in_err-take.ensures.1 in
    subst (Loaded bs) (sym (f.1 ∙ ap Err f.2)) (accepted_by (verdict bs) c.in_ok-check.ensures.exact)

pub returns : goal.returns
returns c =
    let bs = c.args.bytes.now in
    loaded_so bs c.in_ok-take.field-0 (accepted_by (verdict bs) c.in_ok-check.ensures.exact) c.in_ok-take.ensures
