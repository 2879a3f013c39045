use Rattle.std.proofs.Common.{◌≡◌}
use Rattle.decisions.proofs.fix_steps.Given as goal

abbrev pub invariant-loop-step : goal.invariant-loop-step
invariant-loop-step l = (l.facts.store ≡ l.initial.facts.store) × (l.facts.pool ≡ l.initial.facts.pool)
