use Rattle.std.proofs.Common.{◌≡◌, length, get_or, arith}
use Rattle.std.proofs.lemmas.Grind.{common_steps}
use Rattle.kept.specs.Layout.{body_places}
use Rattle.problem.specs.Meant.{held, meant}
use Rattle.problem.proofs.Lawfulness.{is_encoded}
use Rattle.problem.proofs.Standing.{body_stands}
use Rattle.problem.proofs.problem.Problem.body.Goals as goal

pub returns-clause-stands : goal.returns-clause-stands
returns-clause-stands c d lt =
    let p = c.args.self.now in
    let r = c.map_or.result in
    let is : r ≡ get_or (body_places (meant p)) c.args.f (length (held p)) = grind (arith, common_steps) in
    body_stands (meant p) (held p) (is_encoded (held p) p.holds.accepted p.holds.written) c.args.f r d lt is
