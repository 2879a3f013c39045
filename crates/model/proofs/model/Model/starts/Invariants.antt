use Rattle.syntax.specs.Problems.{sig_of}
use Rattle.model.proofs.Starts.{Starting}
use Rattle.model.proofs.model.Model.starts.Given as goal

abbrev pub invariant-loop-ty : goal.invariant-loop-ty
invariant-loop-ty g l =
    Starting (sig_of (g.P.Declares.declares l.self.problem.now)) l.self.bytes.now l.types l.starts.items l.fn.place l.ty-index l.next
