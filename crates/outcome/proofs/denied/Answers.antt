use Rattle.std.proofs.Common.{rules, not}
use Rattle.std.proofs.lemmas.Iterator.{YieldsList-from_slice}
use Rattle.std.proofs.lemmas.Iterator.Search.{find_from_yields_List}
use borrow.Author.Tests.{tests}
use Rattle.chooser.specs.Ways.{lit, written}
use Rattle.outcome.proofs.Checks.{first_denied}
use Rattle.outcome.proofs.denied.Goals as goal

pub returns : goal.returns
returns c =
    let given = c.args.given.now in
    let out = c.args.out.now in
    let first = find_from_yields_List (λ g. not (lit (written out) g)) _ _ c.find.result c.find.ensures.ran (YieldsList-from_slice given cc) (λ x b q k. search (rules, tests)) in
    first_denied given out c.copied.result (search (rules, first))
