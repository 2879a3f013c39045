use Rattle.std.proofs.Common.{rules, ◌≡◌, ◌+◌, ◌*◌, ◌∷◌, sym, refl, ap, ◌∙◌, add-zero}
use Rattle.std.specs.Option.{option_map}
use Rattle.declarations.specs.Numbers.{number, in_list}
use Rattle.declarations.proofs.First.{placed}
use Rattle.declarations.proofs.in_list.Goals as goal

pub returns : goal.returns
returns c =
    let e : c.map.result ≡ option_map (λ i. c.args.place + 1 * i + 0) c.first_past.result = search rules in
    e ∙ ap (option_map (λ i. c.args.place + 1 * i + 0)) c.first_past.ensures
    ∙ placed c.args.known in_list 0 1 (λ p. refl) (λ p t ts. ap (λ q. number q t ∷ in_list (p + 1) ts) (sym (add-zero p))) c.args.place c.args.types.now
