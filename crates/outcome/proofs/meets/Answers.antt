use Rattle.std.proofs.Common.{rules}
use Rattle.std.proofs.lemmas.Iterator.{YieldsList-from_slice}
use Rattle.std.proofs.lemmas.Iterator.Search.{any_from_yields_List}
use borrow.Author.Tests.{tests}
use Rattle.chooser.specs.Ways.{lit, written}
use Rattle.outcome.proofs.meets.Goals as goal

pub returns : goal.returns
returns c =
    let f = lit (written c.args.out.now) in
    any_from_yields_List f _ _ c.any.result c.any.ensures.ran (YieldsList-from_slice c.args.clause.now cc) (λ x b q k. search (rules, tests))
