use Rattle.propagate.specs.Visits.{Onward}
use Rattle.propagate.proofs.watches.Watches.visit_all.Given as goal

abbrev pub invariant-loop : goal.invariant-loop
invariant-loop l = Onward l.initial.search l.search
