use Rattle.std.proofs.Common.{length, vec_items, sym, ap, ◌∙◌}
use Rattle.std.proofs.lemmas.List.{length-map}
use Rattle.syntax.specs.Tables.{cases_in}
use Rattle.problem.proofs.problem.Problem.types.Goals as goal

pub returns : goal.returns
returns c =
    let p = c.args.self.now in
    c.len.ensures ∙ p.tables.types.ok.0 ∙ sym (length-map (vec_items p.tables.types) cases_in) ∙ ap length p.holds.of_types
