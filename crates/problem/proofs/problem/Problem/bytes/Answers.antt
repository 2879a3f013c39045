use Rattle.std.proofs.Common.{sym, subst}
use Rattle.verdict.specs.Exact.{Encodes}
use Rattle.problem.specs.Meant.{held, meant}
use Rattle.problem.proofs.Lawfulness.{is_encoded}
use Rattle.problem.proofs.problem.Problem.bytes.Goals as goal

pub returns : goal.returns
returns c =
    let p = c.args.self.now in
    let is = c.as_slice.ensures.value in
    record { is = is; encodes = subst (Encodes (meant p)) (sym is) (is_encoded (held p) p.holds.accepted p.holds.written) }
