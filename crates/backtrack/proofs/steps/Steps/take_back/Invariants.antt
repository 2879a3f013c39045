-- The trail goes with the values, is dead as it was, and is the start of what it was.
use Rattle.std.proofs.Common.{◌≡◌, ℕ, Bool, true, ◌++◌, length, List}
use Rattle.chooser.specs.Ways.{allotted}
use Rattle.backtrack.specs.Trail.{lits, Trail, Dead}
use Rattle.backtrack.specs.declared.trail.Step.{Step}
use Rattle.backtrack.proofs.steps.Steps.take_back.Given as goal

abbrev pub invariant-loop-step : goal.invariant-loop-step
invariant-loop-step g l =
    (allotted (length l.values) (lits l.self.list.items) ≡ true)
    × ((X : (ℕ → Bool) → Bool) → Trail X l.initial.values l.initial.self.list.items → Dead X (lits l.initial.self.list.items) → Trail X l.values l.self.list.items × Dead X (lits l.self.list.items))
    × ((behind : List Step) × (l.initial.self.list.items ≡ l.self.list.items ++ behind))

abbrev pub decreases-loop-step : goal.decreases-loop-step
decreases-loop-step g l = length l.self.list.items
