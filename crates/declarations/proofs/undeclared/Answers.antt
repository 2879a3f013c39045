use Rattle.std.proofs.Common.{rules, ◌++◌, length, ap, ◌∙◌, append_assoc}
use Rattle.declarations.specs.Numbers.{in_unknowns, first_from, of_types, of_functions}
use Rattle.declarations.proofs.First.{joined}
use Rattle.declarations.proofs.undeclared.Goals as goal

pub returns : goal.returns
returns c =
    let n = length c.args.sig.types.now in
    let ts = of_types c.args.sig.types.now in
    let fs = of_functions c.args.sig.functions.now in
    let us = in_unknowns c.args.start c.args.sig.unknowns.now in
    joined n (ts ++ fs) us c.or_else.result c.or_else-2.result (joined n ts fs c.in_types.result c.or_else.result c.in_types.ensures (search rules)) (search rules)
    ∙ ap (first_from n) (append_assoc ts fs us)
