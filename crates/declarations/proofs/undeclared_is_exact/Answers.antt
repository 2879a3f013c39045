use Rattle.declarations.proofs.Declared.{undeclared_is_exact_lem}
use Rattle.declarations.proofs.undeclared_is_exact.Goals as goal

pub returns : goal.returns
returns c = undeclared_is_exact_lem
