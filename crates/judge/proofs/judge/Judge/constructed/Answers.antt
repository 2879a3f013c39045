use Rattle.std.proofs.Common.{◌≡◌, [], refl, ◌∙◌, arith}
use Rattle.judging.specs.Held.{holds}
use Rattle.judge.specs.Texts.{tlength}
use Rattle.judge.proofs.Agreeing.{holds_length}
use Rattle.judge.proofs.Sets.{adds_none}
use Rattle.judge.proofs.judge.Judge.constructed.Goals as goal

pub returns-clause-agrees : goal.returns-clause-agrees
returns-clause-agrees g c e ts ρ is few r b =
    let long : c.min-count.result ≡ tlength ts = omega (arith, c.min-count.ensures, is, few) in
    record { means = (holds ts ρ, [], refl, long ∙ holds_length ts ρ, c.hold_terms.ensures.row ts ρ long r b, adds_none) }
