use Rattle.std.proofs.Common.{length}
use Rattle.problem.specs.Meant.{meant}
use Rattle.finder.specs.Findings.{finding}
use Rattle.unknowns.specs.Force.{forced}
use Rattle.finding.proofs.InTurn.{InTurn, ahead}
use Rattle.finding.proofs.find.judge_goals.Given as goal

abbrev pub invariant-loop-goal : goal.invariant-loop-goal
invariant-loop-goal g l =
    let p = meant l.judge.problem.now in
    let K = g.D.Decides.unknowns l.judge.decider.now in
    InTurn l.waiting (finding p K (forced l.force) l.steps) (ahead p K (forced l.force) l.steps (length p.goals) l.goal)
