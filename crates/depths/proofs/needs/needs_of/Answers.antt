use Rattle.std.proofs.Common.{rules, map}
use Rattle.syntax.specs.Tables.{listed}
use Rattle.depths.specs.Needs.{need_in}
use Rattle.depths.proofs.Filling.{called_each}
use Rattle.depths.proofs.needs.needs_of.Goals as goal

pub returns : goal.returns
returns c =
    called_each _ _ (need_in c.args.least.now (map listed c.args.cases.now)) (λ i y q few k. search rules) c.from_fn.result c.from_fn.ensures.items.each
