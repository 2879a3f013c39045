use Rattle.std.proofs.Common.{◌≡◌, length, get_or, replicate, ap, ◌∙◌, subst, arith}
use Rattle.std.proofs.lemmas.List.{get_or-replicate, length-map}
use Rattle.syntax.specs.Tables.{declared_in}
use Rattle.depths.specs.Least.{Known, Leasts}
use Rattle.depths.proofs.Rounds.{unknown_all, leasts, first_without}
use Rattle.depths.proofs.least.least_depths.Goals as goal

pub loop-depth-init : goal.loop-depth-init
loop-depth-init c =
    let n = length c.args.least.now in
    let nines : c.fill.new.self ≡ replicate n 9 = c.fill.ensures.after (λ y e. e) in
    let long : length c.fill.new.self ≡ n = c.fill.ensures.len in
    unknown_all (declared_in c.args.sig) c.fill.new.self
    (λ t h. ap (λ xs. get_or xs t 0) nines ∙ get_or-replicate n t 9 0 (omega (arith, long, h)))

pub loop-depth-preserved : goal.loop-depth-preserved
loop-depth-preserved c = c.round.ensures c.loop-depth._depth c.loop-depth.invariant

pub returns : goal.returns
returns c =
    let sig = declared_in c.args.sig in
    let least = c.loop-depth.least in
    let nine : c.loop-depth._depth ≡ 9 = omega arith in
    let known : Known sig least 9 0 = subst (λ k. Known sig least k 0) nine c.loop-depth.invariant in
    let long : length least ≡ length sig.types = simp length-map (omega arith) in
    let right : Leasts sig least = leasts sig least long known in
    record { each = right; first = first_without sig least right c.first_unknown.result c.first_unknown.ensures }
