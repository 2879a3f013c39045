-- The children of each constructor are counted, and a lawful type has few of them.
use Rattle.std.proofs.Common.{◌^◌, ◌≡◌, [], length, get_or, ◌∙◌, arith, rules, tests}
use Rattle.std.specs.List.{range_with_len}
use Rattle.std.proofs.lemmas.Iterator.{YieldsList-from_range, YieldsList-from_map}
use Rattle.std.proofs.lemmas.Iterator.Consumers.{sum_by_from_yields_List, fits_by_from_yields_list}
use Rattle.syntax.specs.Typing.{cases_of}
use Rattle.syntax.specs.Problems.{sig_of}
use Rattle.problem.specs.Meant.{meant}
use Rattle.places.specs.Places.{births}
use Rattle.problem.proofs.Lawfulness.{lawful}
use Rattle.unknowns.proofs.Limits.{births_few, births_sum}
use Rattle.unknowns.proofs.opening.births.Goals as goal

pub sum-requires-clause-fits : goal.sum-requires-clause-fits
sum-requires-clause-fits c =
    let cs = cases_of (sig_of (meant c.args.problem.now)) c.args.ty in
    let few = births_few (meant c.args.problem.now) (lawful c.args.problem.now) c.args.ty in
    let all = births_sum cs in
    fits_by_from_yields_list (λ k. length (get_or cs k [])) (range_with_len 0 (length cs)) c.map.result (2 ^ 64)
    (YieldsList-from_map _ (λ k. length (get_or cs k [])) (YieldsList-from_range 0 (length cs) (length cs) (cc) (omega arith)) c.map.ensures.closure
    (λ x r q k. search (rules, tests)))
    (omega arith)

pub returns : goal.returns
returns c =
    let cs = cases_of (sig_of (meant c.args.problem.now)) c.args.ty in
    let few = births_few (meant c.args.problem.now) (lawful c.args.problem.now) c.args.ty in
    let is : c.sum.result ≡ births cs = sum_by_from_yields_List (λ k. length (get_or cs k [])) (range_with_len 0 (length cs)) _ _ c.sum.ensures.ran
    (YieldsList-from_map _ (λ k. length (get_or cs k [])) (YieldsList-from_range 0 (length cs) (length cs) (cc) (omega arith)) c.map.ensures.closure
    (λ x r q k. search (rules, tests)))
    ∙ births_sum cs in
    record { is = is; few = omega (arith, few, is) }
