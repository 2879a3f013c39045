-- The theorem about texts that spell a formula.
use Rattle.dimacs.proofs.Spelled.{read_as_spelled}
use Rattle.dimacs.proofs.spelled_stands.Goals as goal

pub returns : goal.returns
returns c = read_as_spelled
