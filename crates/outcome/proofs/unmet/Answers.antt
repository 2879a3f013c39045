use Rattle.std.proofs.Common.{rules, List, ℕ, not, Bor}
use Rattle.std.proofs.lemmas.Iterator.{YieldsList}
use Rattle.std.proofs.lemmas.Iterator.Consumers.{YieldsList-from_first}
use Rattle.std.proofs.lemmas.Iterator.Search.{find_from_yields_List}
use Rattle.std.specs.Iterator.{YieldsFirstRef}
use borrow.Author.Tests.{tests}
use Rattle.chooser.specs.Ways.{lit, some, written}
use Rattle.rows.specs.Clauses.{clauses_left}
use Rattle.rows.specs.Rows.{clauses_of}
use Rattle.outcome.proofs.Checks.{first_missed}
use Rattle.outcome.proofs.unmet.Goals as goal

pub returns : goal.returns
returns c =
    let row = c.args.row.now in
    let out = c.args.out.now in
    let yields : YieldsList (YieldsFirstRef clauses_left) (λ (x : Bor (List ℕ)). x.now) c.new.result (clauses_of row) = YieldsList-from_first (λ x. x.now) clauses_left (clauses_of row) c.new.ensures in
    first_missed row out c.requires c.find.result
    (find_from_yields_List (λ k. not (some (lit (written out)) k)) c.find.new.self _ c.find.result c.find.ensures.ran yields (λ x b q k. search (rules, tests)))
