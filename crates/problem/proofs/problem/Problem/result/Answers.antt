use Rattle.std.proofs.Common.{◌≡◌, map, get_or, vec_items, ap, ◌∙◌, arith}
use Rattle.std.proofs.lemmas.Grind.{common_steps}
use Rattle.syntax.specs.Typing.{Profile, no_profile}
use Rattle.problem.specs.Meant.{meant}
use Rattle.problem.proofs.Entries.{part_at}
use Rattle.problem.proofs.problem.Problem.result.Goals as goal

pub returns : goal.returns
returns c =
    let p = c.args.self.now in
    let table : c.map_or.result ≡ get_or (map (λ f. f.result) (vec_items p.tables.functions)) c.args.f 0 = grind (arith, common_steps) in
    table ∙ ap (λ zs. get_or zs c.args.f 0) p.holds.of_results
    ∙ part_at (λ f. f.profile) (λ (q : Profile). q.result) (meant p).functions c.args.f no_profile
