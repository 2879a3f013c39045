use Rattle.finder.proofs.Extended.{extending}
use Rattle.finder.proofs.laws.extending_stands.Goals as goal

pub returns : goal.returns
returns c = extending
