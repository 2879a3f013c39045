use Rattle.problem.specs.Meant.{meant}
use Rattle.telling.proofs.Unknowns.{Partway}
use Rattle.telling.proofs.page.Page.model.Given as goal

abbrev pub invariant-loop-unknown : goal.invariant-loop-unknown
invariant-loop-unknown l = Partway (meant l.model.problem.now) l.model.bytes.now l.unknown l.place l.fn.self l.self
