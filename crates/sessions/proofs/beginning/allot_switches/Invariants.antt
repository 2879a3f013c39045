-- As many switches were allotted as turns were made.
use Rattle.std.proofs.Common.{[]}
use Rattle.finder.specs.Clauses.{Extended}
use Rattle.sessions.proofs.beginning.allot_switches.Given as goal

abbrev pub invariant-loop : goal.invariant-loop
invariant-loop g l = Extended (g.C.Chooser.meaning l.initial.chooser) (g.C.Chooser.meaning l.chooser) l.counter []
