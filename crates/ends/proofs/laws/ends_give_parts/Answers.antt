use Rattle.ends.proofs.Ending.{ends_give_parts_lem}
use Rattle.ends.proofs.laws.ends_give_parts.Goals as goal

pub returns : goal.returns
returns c = ends_give_parts_lem
