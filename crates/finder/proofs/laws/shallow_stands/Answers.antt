use Rattle.finder.proofs.Assigned.{shallow_stands_lem}
use Rattle.finder.proofs.laws.shallow_stands.Goals as goal

pub returns : goal.returns
returns c = shallow_stands_lem
