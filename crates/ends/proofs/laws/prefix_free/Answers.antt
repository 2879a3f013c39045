use Rattle.ends.proofs.Prefixes.{prefix_free_lem}
use Rattle.ends.proofs.laws.prefix_free.Goals as goal

pub returns : goal.returns
returns c = prefix_free_lem
