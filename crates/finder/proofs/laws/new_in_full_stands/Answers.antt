use Rattle.finder.proofs.Conflicts.{new_in_full}
use Rattle.finder.proofs.laws.new_in_full_stands.Goals as goal

pub returns : goal.returns
returns c = new_in_full
