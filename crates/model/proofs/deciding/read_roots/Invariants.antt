use Rattle.syntax.specs.Problems.{sig_of}
use Rattle.model.proofs.Roots.{Rooted}
use Rattle.model.proofs.deciding.read_roots.Given as goal

abbrev pub invariant-loop-number : goal.invariant-loop-number
invariant-loop-number g l = Rooted (sig_of (g.P.Declares.declares l.problem)) l.bytes l.types l.roots.items l.number l.mark
