use Rattle.std.proofs.Common.{rules, ◌≡◌, ℕ, map, max, arith}
use Rattle.std.specs.List.{fold}
use Rattle.depths.specs.Needs.{depth_at}
use Rattle.depths.proofs.Filling.{greatest_fold, greatest_low}
use Rattle.depths.proofs.Rounds.{depth_low}
use Rattle.depths.proofs.needs.deepest_of.Goals as goal

pub returns : goal.returns
returns c =
    let f : ℕ → ℕ = depth_at c.args.least.now in
    let ts = c.args.types.now in
    let folded : c.fold.result ≡ fold (λ a x. max a x) 0 (map f ts) = search rules in
    let all = greatest_fold f ts 0 in
    let low = greatest_low f ts 9 (depth_low c.args.least.now) in
    record { is = omega (arith, folded, all); low = omega (arith, folded, all, low) }
