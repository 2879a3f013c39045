use Rattle.std.proofs.Common.{length, vec_items, sym, ap, ◌∙◌}
use Rattle.std.proofs.lemmas.List.{length-map}
use Rattle.syntax.specs.Problems.{encode_goal}
use Rattle.kept.specs.Layout.{goal_from, goals_from}
use Rattle.problem.specs.Meant.{meant}
use Rattle.problem.proofs.Standing.{length_places}
use Rattle.problem.proofs.problem.Problem.goals.Goals as goal

pub returns : goal.returns
returns c =
    let p = c.args.self.now in
    c.len.ensures ∙ p.tables.goals.ok.0 ∙ sym (length-map (vec_items p.tables.goals) (λ g. g.start)) ∙ ap length p.holds.of_goals
    ∙ length_places goal_from encode_goal (goals_from (meant p)) (meant p).goals
