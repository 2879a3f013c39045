use Rattle.std.proofs.Common.{arith}
use Rattle.decisions.proofs.choose.Goals as goal

pub conclude-requires-clause-assumed : goal.conclude-requires-clause-assumed
conclude-requires-clause-assumed c =
    let o = c.assume.ensures.planned in
    let before = o.before in
    let all = c.in_default.ensures.assumed in
    λ i lt. let w = o.assumed i (omega (arith, all)) in let at = w.1 in (w.0, omega (arith, at), w.2)
