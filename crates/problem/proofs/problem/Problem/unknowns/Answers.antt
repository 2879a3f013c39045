use Rattle.std.proofs.Common.{ℕ, ◌≤◌, List, length, sym, ◌∙◌, subst}
use Rattle.problem.specs.Meant.{held}
use Rattle.problem.proofs.Lawfulness.{is_encoded}
use Rattle.problem.proofs.problem.Problem.unknowns.Goals as goal

pub returns-clause-few : goal.returns-clause-few
returns-clause-few c =
    let p = c.args.self.now in
    let lawful = (is_encoded (held p) p.holds.accepted p.holds.written).lawful in
    subst (λ (ts : List ℕ). length ts ≤ 16) (sym (c.as_slice.ensures.value ∙ p.holds.of_unknowns)) lawful.few_unknowns
