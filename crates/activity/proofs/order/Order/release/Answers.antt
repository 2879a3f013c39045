use Rattle.std.proofs.Common.{◌/◌, set, ap, ◌∙◌}
use Rattle.std.proofs.lemmas.List.{map-set}
use Rattle.activity.specs.Phases.{phases}
use Rattle.activity.proofs.order.Order.release.Goals as goal

pub returns-then-v-lt-MOST_VARIABLES : goal.returns-then-v-lt-MOST_VARIABLES
returns-then-v-lt-MOST_VARIABLES c =
    c.insert.ensures
    ∙ map-set (λ v. v.phase) c.args.self.now.variables.items (c.args.l / 2) _
    ∙ ap (set (phases c.args.self.now) (c.args.l / 2)) c.is_positive.ensures
