use Rattle.std.proofs.Common.{rules, ◌≡◌, ◌==◌, false, length, refl}
use Rattle.sessiontests.proofs.Nothing.{unallotted}
use Rattle.sessiontests.proofs.bare.BareChooser.ask.Goals as goal

pub returns-then-not-is_empty-clause-answered : goal.returns-then-not-is_empty-clause-answered
returns-then-not-is_empty-clause-answered c =
    let some : (length c.args.assumptions.now == 0) ≡ false = search (rules, c.is_empty.ensures, c.if-not-is_empty.true) in
    (refl, unallotted c.args.assumptions.now _ some)
