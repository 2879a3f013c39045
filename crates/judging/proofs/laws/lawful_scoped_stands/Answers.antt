use Rattle.judging.proofs.laws.lawful_scoped_stands.Goals as goal
use Rattle.judging.proofs.Scope.{lawful_scoped}

pub returns : goal.returns
returns c = lawful_scoped
