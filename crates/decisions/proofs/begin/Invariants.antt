use Rattle.std.proofs.Common.{◌≡◌}
use Rattle.decisions.specs.Plans.{Forced}
use Rattle.decisions.proofs.begin.Given as goal

abbrev pub invariant-loop-l : goal.invariant-loop-l
invariant-loop-l l = (l.search.facts ≡ l.fn.search.facts) × Forced l.search.trail.steps.items
