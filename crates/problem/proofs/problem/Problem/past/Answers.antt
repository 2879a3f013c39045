use Rattle.std.proofs.Common.{ℕ, List, ap, ◌∙◌}
use Rattle.ends.specs.Ends.{hops}
use Rattle.problem.proofs.problem.Problem.past.Goals as goal

pub returns : goal.returns
returns c = c.past.ensures ∙ ap (λ (next : List ℕ). hops next c.args.count c.args.place) (c.as_slice.ensures.value ∙ c.args.self.now.next_held)
