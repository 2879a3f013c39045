use Rattle.std.proofs.Common.{sym, ap}
use Rattle.std.proofs.lemmas.Result.{err_from_is_err_and}
use Rattle.verdict.specs.Verdict.{checked}
use Rattle.verdict.proofs.Exact.{says_ok, says_err}
use Rattle.verdict.proofs.Accepting.{accepted_encodes}
use Rattle.verdict.proofs.check.check_with.Goals as goal

pub returns-in_err-examine : goal.returns-in_err-examine
returns-in_err-examine g c =
    let p = err_from_is_err_and c.from_residual.result c.from_residual.ensures.1 in
    let e = c.in_err-examine.ensures in
    record {
      exact = rw (p.1, p.2) (sym (ap checked e));
      says = rw p.1 (says_err c.args.bytes.now c.in_err-examine.field-0.0 e);
    }

pub returns : goal.returns
returns g c =
    let a = c.in_ok-examine.ensures in
    record {
      exact = sym (ap checked a.is);
      says = says_ok c.args.bytes.now a.problem a.is (accepted_encodes a);
    }
