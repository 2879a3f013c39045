use Rattle.std.proofs.Common.{◌≡◌, length, get_or, arith}
use Rattle.std.proofs.lemmas.Grind.{common_steps}
use Rattle.kept.specs.Layout.{goal_places}
use Rattle.problem.specs.Meant.{held, meant}
use Rattle.problem.proofs.Lawfulness.{is_encoded}
use Rattle.problem.proofs.Standing.{goal_stands}
use Rattle.problem.proofs.problem.Problem.goal.Goals as goal

pub returns-clause-stands : goal.returns-clause-stands
returns-clause-stands c d lt =
    let p = c.args.self.now in
    let r = c.map_or.result in
    let is : r ≡ get_or (goal_places (meant p)) c.args.g (length (held p)) = grind (arith, common_steps) in
    goal_stands (meant p) (held p) (is_encoded (held p) p.holds.accepted p.holds.written) c.args.g r d lt is
