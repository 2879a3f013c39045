use Rattle.std.proofs.Common.{rules, ◌≡◌, ◌+◌, ◌*◌, refl, ap, ◌∙◌}
use Rattle.std.specs.Option.{option_map}
use Rattle.declarations.specs.Numbers.{in_unknowns}
use Rattle.declarations.proofs.First.{placed}
use Rattle.declarations.proofs.in_unknowns.Goals as goal

pub returns : goal.returns
returns c =
    let e : c.map.result ≡ option_map (λ k. c.args.start + 3 * k + 2) c.first_past.result = search rules in
    e ∙ ap (option_map (λ k. c.args.start + 3 * k + 2)) c.first_past.ensures
    ∙ placed c.args.known in_unknowns 2 3 (λ p. refl) (λ p t ts. refl) c.args.start c.args.unknowns.now
