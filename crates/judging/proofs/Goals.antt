-- What a judged goal gives, gathered from what is proved of judging. Assumes nothing.
use Rattle.std.proofs.Common.{get_or, ap, ◌∙◌}
use Rattle.judging.specs.Held.{missing}
use Rattle.judging.specs.Paths.{Path, under}
use Rattle.judging.specs.Explained.{All}
use Rattle.judging.specs.Asked.{Asked, Decided}
use Rattle.judging.specs.Names.{nameds, named_head, result}
use Rattle.judging.specs.Goals.{GoalExplains, GoalWaits, JudgedByNames, AwaitsByNames}
use Rattle.judging.proofs.Asked.{member, goal_asked, goal_awaits}
use Rattle.judging.proofs.Reached.{asked_paths}
use Rattle.judging.proofs.Closed.{goal_closed}
use Rattle.judging.proofs.Names.{by_names}

pub goal_explains : GoalExplains
goal_explains p lawful δ g c E j =
    let asked : All (λ u. Asked p (under p δ) u × Decided (under p δ) u) E =
    goal_asked Path p lawful (under p δ) g j.steps j.left c j.args E j.judged in
    record {
      decided = λ u m. (member m asked).1;
      reached = λ u m. ((asked_paths p δ u).0 (member m asked).0).0;
      exists = λ u m. ((asked_paths p δ u).0 (member m asked).0).1;
      closed = goal_closed p δ (get_or p.goals g missing) j.steps j.left c j.args E j.judged;
    }

pub goal_waits : GoalWaits
goal_waits p lawful δ g u a =
    let asked = goal_awaits Path p lawful (under p δ) g a.steps a.left u a.judged in
    let there = (asked_paths p δ u).0 asked.0 in
    (asked.1, there.0, there.1)

pub judged_by_names : JudgedByNames
judged_by_names p lawful K path δ N g s left c xs E e =
    record {
      steps = s;
      left = left;
      args = nameds path xs;
      judged = by_names p lawful K path δ N g s ∙ ap (result (named_head path)) e;
    }

pub awaits_by_names : AwaitsByNames
awaits_by_names p lawful K path δ N g s left u e =
    record { steps = s; left = left; judged = by_names p lawful K path δ N g s ∙ ap (result (named_head path)) e }
