use Rattle.std.proofs.Common.{rules, ◌≡◌, ◌+◌, [], ◌∷◌, ◌++◌, length, ap, ◌∙◌, arith}
use Rattle.declarations.specs.Numbers.{number, in_list, in_profile, first_from}
use Rattle.declarations.proofs.First.{joined}
use Rattle.declarations.proofs.in_callable.Goals as goal

pub returns : goal.returns
returns c =
    let ts = c.types-types.result.now in
    let at = c.args.function.now.at in
    let r = c.args.function.now.result in
    let e : (at + 3) + length ts ≡ at + (3 + length ts) = omega arith in
    joined c.args.known (in_list (at + 3) ts) (number ((at + 3) + length ts) r ∷ []) c.in_list.result c.or_else.result c.in_list.ensures (search rules)
    ∙ ap (λ q. first_from c.args.known (in_list (at + 3) ts ++ (number q r ∷ []))) e
    ∙ ap (λ us. first_from c.args.known (in_profile at us r)) c.types-types.ensures.is
