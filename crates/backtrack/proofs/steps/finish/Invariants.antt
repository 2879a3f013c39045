-- The values before the place are closed, and the others are as they were.
use Rattle.std.proofs.Common.{◌≡◌, ℕ, ◌<◌, ◌≤◌, cond, eqb, get_or}
use Rattle.backtrack.proofs.steps.finish.Given as goal

abbrev pub invariant-loop-value : goal.invariant-loop-value
invariant-loop-value l =
    ((k : ℕ) → k < l.value-index → get_or l.values k 0 ≡ cond (eqb (get_or l.initial.values k 0) 2) 0 (get_or l.initial.values k 0))
    × ((k : ℕ) → l.value-index ≤ k → get_or l.values k 0 ≡ get_or l.initial.values k 0)
