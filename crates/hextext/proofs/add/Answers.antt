use Rattle.std.proofs.Common.{ℕ, Option, subst}
use Rattle.hextext.specs.Digits.{Written}
use Rattle.hextext.proofs.Pairs.{Written-pair}
use Rattle.hextext.proofs.add.Goals as goal

pub returns : goal.returns
returns c = λ digits d w h.
    let waits = subst (λ (o : Option ℕ). Written digits c.args.bytes.now.items o) c.in-Some.is w in
    rw c.in_ok-push.ensures.items (Written-pair digits c.args.bytes.now.items d c.in-Some.high c.args.low waits h)
