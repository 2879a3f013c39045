use Rattle.std.proofs.Common.{ℕ, ◌<◌}
use Rattle.outcome.specs.Outcome.{Copied}
use Rattle.outcome.proofs.write.Given as goal

abbrev pub invariant-loop-v : goal.invariant-loop-v
invariant-loop-v l = (k : ℕ) → k < l.v → Copied l.trail.values l.out k
