use Rattle.std.proofs.Common.{◌≡◌, ◌+◌, ap, ◌∙◌}
use Rattle.syntax.specs.Tables.{declared_in}
use Rattle.syntax.specs.Least.{greatest}
use Rattle.depths.specs.Needs.{depth_at, need_by}
use Rattle.depths.proofs.Rounds.{need_right}
use Rattle.depths.proofs.needs.need.Goals as goal

pub returns : goal.returns
returns c =
    let least = c.args.least.now in
    let by : c.need_over.result ≡ need_by (declared_in c.args.sig) least c.args.t c.args.c =
    c.need_over.ensures.is ∙ ap (λ ts. 1 + greatest (depth_at least) ts) c.arguments.ensures.is in
    record { by = by; is = λ right. by ∙ need_right (declared_in c.args.sig) least right c.args.t c.args.c }
