use Rattle.std.proofs.Common.{refl, sym, ◌∙◌}
use Rattle.sessiontests.proofs.Nothing.{unallotted}
use Rattle.sessiontests.proofs.bare.BareChooser.add.Goals as goal

pub returns-else-is_empty : goal.returns-else-is_empty
returns-else-is_empty c = (
  record { counts = refl; rooms = refl; leaves = refl; allows = λ p. refl },
  unallotted c.args.clause.now _ (sym c.is_empty.ensures ∙ c.if-is_empty.false),
)
