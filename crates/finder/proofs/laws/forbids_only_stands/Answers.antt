use Rattle.finder.proofs.Conflicts.{forbids_only}
use Rattle.finder.proofs.laws.forbids_only_stands.Goals as goal

pub returns : goal.returns
returns c = forbids_only
