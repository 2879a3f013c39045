use Rattle.std.proofs.Common.{◌≡◌, ℕ, ◌<◌, get_or}
use Rattle.problem.specs.Meant.{meant}
use Rattle.replay.specs.Replays.{answer_of}
use Rattle.replay.proofs.replay.judge_all.Given as goal

abbrev pub invariant-loop-goal : goal.invariant-loop-goal
invariant-loop-goal g l =
    (k : ℕ) → k < l.goal
    → get_or l.answer k 0 ≡ answer_of (meant l.judge.problem.now) (g.D.Decides.unknowns l.judge.decider.now) l.steps k
