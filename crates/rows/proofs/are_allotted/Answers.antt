-- Half of a literal is below the count exactly where the literal is below twice the count.
use Rattle.std.proofs.Common.{rules, ◌*◌, nat_lt}
use Rattle.std.proofs.lemmas.Iterator.{YieldsList-from_slice}
use Rattle.std.proofs.lemmas.Iterator.Search.{all_from_yields_List}
use borrow.Author.Tests.{tests}
use Rattle.rows.proofs.Lits.{half_below}
use Rattle.rows.proofs.are_allotted.Goals as goal

pub returns : goal.returns
returns c =
    all_from_yields_List (λ l. nat_lt l (2 * c.args.count)) _ _ c.all.result c.all.ensures.ran (YieldsList-from_slice c.args.literals.now cc) (λ x b q k. rw (← half_below x.now c.args.count) (search (rules, tests)))
