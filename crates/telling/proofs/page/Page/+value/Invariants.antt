use Rattle.std.proofs.Common.{◌-◌, length}
use Rattle.syntax.specs.Problems.{sig_of}
use Rattle.problem.specs.Meant.{meant}
use Rattle.telling.proofs.Values.{Partway}
use Rattle.telling.proofs.page.Page.+value.Given as goal

abbrev pub decreases-value : goal.decreases-value
decreases-value l = length l.model.now.bytes.now - l.place

abbrev pub invariant-loop-argument : goal.invariant-loop-argument
invariant-loop-argument l =
    Partway (sig_of (meant l.model.problem.now)) l.model.bytes.now l.fn.place l.types l.argument l.end l.fn.self l.self
