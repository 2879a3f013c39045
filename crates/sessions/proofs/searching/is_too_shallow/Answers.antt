-- The depth is compared with the least depth of each unknown's type.
use Rattle.std.proofs.Common.{rules, nat_lt, ap, ◌∙◌}
use Rattle.std.proofs.lemmas.Iterator.{YieldsList-from_slice}
use Rattle.std.proofs.lemmas.Iterator.Search.{any_from_yields_List}
use borrow.Author.Tests.{tests}
use Rattle.finder.specs.Levels.{measures, any_deeper}
use Rattle.problem.specs.Meant.{meant}
use Rattle.sessions.proofs.Shallow.{any_so}
use Rattle.sessions.proofs.searching.is_too_shallow.Goals as goal

pub returns : goal.returns
returns c =
    let d = measures (meant c.args.problem.now) in
    any_from_yields_List (λ t. nat_lt c.args.depth (d.least t)) _ _ c.any.result c.any.ensures.ran (YieldsList-from_slice c.unknowns.result.now cc) (λ x b q k. search (rules, tests))
    ∙ any_so d c.args.depth c.unknowns.result.now ∙ ap (any_deeper d c.args.depth) c.unknowns.ensures.is
