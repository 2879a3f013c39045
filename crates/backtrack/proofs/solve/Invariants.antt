-- The trail stays sound, and its weight comes nearer to its bound.
use Rattle.std.proofs.Common.{◌-◌, ◌^◌, length}
use Rattle.backtrack.specs.Solved.{allowed}
use Rattle.backtrack.specs.Trail.{Trail}
use Rattle.backtrack.proofs.Turns.{load}
use Rattle.backtrack.proofs.solve.Given as goal

abbrev pub invariant-loop-l : goal.invariant-loop-l
invariant-loop-l g l = Trail (allowed l.row l.assumptions) l.values l.trail.list.items

abbrev pub decreases-loop-l : goal.decreases-loop-l
decreases-loop-l g l = 3 ^ length l.initial.values - load (length l.initial.values) l.trail.list.items
