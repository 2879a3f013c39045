use Rattle.std.proofs.Common.{ℕ, ◌+◌, length, length-take, Option, sym, ◌∙◌, subst, arith}
use Rattle.problem.specs.Meant.{meant}
use Rattle.problem.proofs.Lawfulness.{lawful}
use Rattle.finder.specs.Findings.{finding}
use Rattle.unknowns.specs.Force.{forced}
use Rattle.finding.proofs.InTurn.{InTurn, ahead, at_start, none_waits, one_waits, passed_over, found_out, found_false, goes_true, goes_waiting}
use Rattle.finding.proofs.find.judge_goals.Goals.{in-Waiting, in-True}
use Rattle.finding.proofs.find.judge_goals.Goals as goal

pub shared_ref_as_front-goals : goal.shared_ref_as_front-goals
shared_ref_as_front-goals g c =
    let few = (lawful c.args.judge.now.problem.now).few_goals in
    omega (arith, few, c.goals.ensures)

pub loop-goal-init : goal.loop-goal-init
loop-goal-init g c =
    let p = meant c.args.judge.now.problem.now in
    at_start p (g.D.Decides.unknowns c.args.judge.now.decider.now) (forced c.args.force.now) c.args.steps (length p.goals)

pub loop-goal-preserved-then-not-in_force : goal.loop-goal-preserved-then-not-in_force
loop-goal-preserved-then-not-in_force g c =
    passed_over (meant c.args.judge.now.problem.now) (g.D.Decides.unknowns c.args.judge.now.decider.now) c.args.force.now c.args.steps
    c.goals.result c.loop-goal.goal c.loop-goal.waiting c.goals.ensures c.loop-goal-test.true c.loop-goal.invariant c.if-not-in_force.true

pub returns-in-Out : goal.returns-in-Out
returns-in-Out g c =
    found_out (meant c.args.judge.now.problem.now) (g.D.Decides.unknowns c.args.judge.now.decider.now) c.args.force.now c.args.steps
    c.goals.result c.loop-goal.goal c.loop-goal.waiting c.goals.ensures c.loop-goal-test.true c.loop-goal.invariant c.if-not-in_force.false
    c.in-Out.ensures.judged

pub returns-in-False : goal.returns-in-False
returns-in-False g c =
    found_false (meant c.args.judge.now.problem.now) (g.D.Decides.unknowns c.args.judge.now.decider.now) c.args.force.now c.args.steps
    c.goals.result c.loop-goal.goal c.loop-goal.waiting c.goals.ensures c.loop-goal-test.true c.loop-goal.invariant c.if-not-in_force.false
    c.nothing.result.words c.judge_goal.new.because.words c.in-False.ensures.judged c.in-False.ensures.explained c.nothing.ensures

pub loop-goal-preserved : goal.loop-goal-preserved
loop-goal-preserved g c =
    let p = meant c.args.judge.now.problem.now in
    let K = g.D.Decides.unknowns c.args.judge.now.decider.now in
    let P : Option ℕ → Type 0 =
    λ o. InTurn o (finding p K (forced c.args.force.now) c.args.steps)
    (ahead p K (forced c.args.force.now) c.args.steps (length p.goals) (c.loop-goal.goal + 1)) in
    elim c.match-judge_goal.branch [
      | in-Waiting w ↦
          subst P (sym (w.waiting-is ∙ w.or-waiting.ensures))
          (goes_waiting p K c.args.force.now c.args.steps c.goals.result c.loop-goal.goal c.loop-goal.waiting c.goals.ensures
          c.loop-goal-test.true c.loop-goal.invariant c.if-not-in_force.false w.in-Waiting.unknown w.in-Waiting.ensures.judged)
      | in-True w ↦
          subst P (sym w.waiting-is)
          (goes_true p K c.args.force.now c.args.steps c.goals.result c.loop-goal.goal c.loop-goal.waiting c.goals.ensures
          c.loop-goal-test.true c.loop-goal.invariant c.if-not-in_force.false w.in-True.ensures.judged)
    ]

pub returns-in-Some : goal.returns-in-Some
returns-in-Some g c =
    let p = meant c.args.judge.now.problem.now in
    let K = g.D.Decides.unknowns c.args.judge.now.decider.now in
    let few = (lawful c.args.judge.now.problem.now).few_goals in
    let all = length-take c.goals.result c.args.force.now in
    let P : Option ℕ → Type 0 =
    λ o. InTurn o (finding p K (forced c.args.force.now) c.args.steps)
    (ahead p K (forced c.args.force.now) c.args.steps (length p.goals) c.loop-goal.goal) in
    one_waits p K (forced c.args.force.now) c.args.steps (length p.goals) c.loop-goal.goal c.in-Some.unknown _
    (omega (arith, few, all, c.goals.ensures)) (subst P c.in-Some.is c.loop-goal.invariant)

pub returns-in-None : goal.returns-in-None
returns-in-None g c =
    let p = meant c.args.judge.now.problem.now in
    let K = g.D.Decides.unknowns c.args.judge.now.decider.now in
    let few = (lawful c.args.judge.now.problem.now).few_goals in
    let all = length-take c.goals.result c.args.force.now in
    let P : Option ℕ → Type 0 =
    λ o. InTurn o (finding p K (forced c.args.force.now) c.args.steps)
    (ahead p K (forced c.args.force.now) c.args.steps (length p.goals) c.loop-goal.goal) in
    none_waits p K (forced c.args.force.now) c.args.steps (length p.goals) c.loop-goal.goal _
    (omega (arith, few, all, c.goals.ensures)) (subst P c.in-None.is c.loop-goal.invariant)
