use Rattle.std.proofs.Common.{vec_items, ◌∙◌}
use Rattle.problem.specs.Meant.{meant}
use Rattle.problem.proofs.Entries.{same_length}
use Rattle.problem.proofs.problem.Problem.functions.Goals as goal

pub returns : goal.returns
returns c =
    let p = c.args.self.now in
    c.len.ensures ∙ p.tables.functions.ok.0
    ∙ same_length (λ f. f.result) (λ f. f.profile.result) (vec_items p.tables.functions) (meant p).functions p.holds.of_results
