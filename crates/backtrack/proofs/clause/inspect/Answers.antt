-- All the literals were looked at, and each is false.
use Rattle.std.proofs.Common.{take, subst}
use Rattle.std.proofs.lemmas.List.{take_all}
use Rattle.backtrack.specs.Told.{Told}
use Rattle.backtrack.specs.declared.clause.Status.TheVariants.{Clash}
use Rattle.backtrack.proofs.Looks.{status}
use Rattle.backtrack.proofs.clause.inspect.Goals as goal

pub returns-in-None-default : goal.returns-in-None-default
returns-in-None-default c =
    let values = c.args.values.now in
    let i = c.loop-l.l-index in
    let all = take_all i c.args.clause.now c.loop-l-test.false in
    subst (λ xs. Told values xs Clash) all (subst (λ o. Told values (take i c.args.clause.now) (status o c.loop-l.again)) c.in-None-default.is-0 c.loop-l.invariant)
