use Rattle.std.proofs.Common.{rules, ◌≡◌, ℕ, List, [], ◌∷◌, length, refl, ap, ◌∙◌, arith}
use Rattle.std.specs.List.{fold}
use Rattle.std.proofs.iter.runs.Sources.{range_runs}
use Rattle.std.specs.declared.ops.Range.{Range}
use Rattle.ends.specs.Ends.{hop, hops}
use Rattle.ends.proofs.ends.past.Goals as goal

-- one hop for each item, whatever the items are
folded : (next xs : List ℕ) (q : ℕ) → fold (λ p _. hop next p) q xs ≡ hops next (length xs) q
folded next [] q = refl
folded next (x ∷ xs) q = folded next xs (hop next q)

pub returns : goal.returns
returns c =
    let next = c.args.next.now in
    let run = c.fold.ensures.runs in
    let few : run.0.len ≡ c.args.n = omega (arith, (range_runs run.0 run.0.seen).1 run.2, ap (λ (r : Range ℕ). r.end) run.1, ap (λ (r : Range ℕ). r.start) run.1) in
    let all : length run.0.items ≡ c.args.n = omega (arith, run.0.long) in
    run.3 (λ p _. hop next p) (search rules) ∙ folded next run.0.items c.args.q ∙ ap (λ n. hops next n c.args.q) all
