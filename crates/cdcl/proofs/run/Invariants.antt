use Rattle.std.proofs.Common.{◌≡◌}
use Rattle.decisions.specs.Plans.{Planned}
use Rattle.cdcl_steps.specs.Search.{measure}
use Rattle.cdcl.proofs.run.Given as goal

abbrev pub invariant-turn : goal.invariant-turn
invariant-turn l = record {
  store : l.solver.search.facts.store ≡ l.initial.solver.search.facts.store;
  planned : Planned l.given l.solver.search.trail.steps.items l.plan;
}

abbrev pub decreases-turn : goal.decreases-turn
decreases-turn l = measure l.restarts.left l.solver.search.trail.steps.items
