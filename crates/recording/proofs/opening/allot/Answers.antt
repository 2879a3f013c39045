-- The room was tested before, so neither the clause of the cases nor those of the pairs are refused.
use Rattle.std.proofs.Common.{◌≡◌, ◌-◌, length, ap, ◌∙◌, arith}
use Rattle.chooser.specs.Ways.{allotted}
use Rattle.chooser.specs.Meaning.{Meaning}
use Rattle.finder.specs.Clauses.{entries, not_two}
use Rattle.recording.proofs.Clauses.{not_refused}
use Rattle.recording.proofs.Openings.{cases_allotted, takes_cases}
use Rattle.recording.proofs.opening.allot.Goals as goal

pub returns-in_err-add : goal.returns-in_err-add
returns-in_err-add g c =
    let M : Meaning = g.C.Chooser.meaning c.args.chooser.now in
    let M₁ : Meaning = g.C.Chooser.meaning c.allot_each.new.chooser in
    let n = c.in_ok-one_holds.ensures in
    let counts = n.extends.counts in
    let spends = n.extends.spends in
    let takes = takes_cases M.count c.args.cases c.in_ok-one_holds.one_holds.items n.are in
    let slice = c.as_slice.ensures.value in
    let long = ap length slice in
    let named = ap (allotted M₁.count) (slice ∙ n.are) ∙ cases_allotted M₁.count M.count c.args.cases (omega (arith, counts)) in
    absurd (not_refused M₁ c.as_slice.result.now c.in_err-add.field-0.0 c.in_err-add.ensures.1 named (omega (arith, spends, takes, long)))

pub add_pairs-requires-clause-fits : goal.add_pairs-requires-clause-fits
add_pairs-requires-clause-fits g c =
    let M : Meaning = g.C.Chooser.meaning c.args.chooser.now in
    let n = c.in_ok-one_holds.ensures in
    let spends = n.extends.spends in
    let takes = takes_cases M.count c.args.cases c.in_ok-one_holds.one_holds.items n.are in
    let long = ap length c.as_slice.ensures.value in
    let added = c.in_ok-add.ensures.spends in
    let whole = g.C.Chooser.laws.whole c.args.chooser.now in
    let first : c.MAX_VARIABLES.result - c.variables_left-2.result ≡ M.count = omega (arith, whole) in
    let same = ap (λ a. entries (not_two a c.args.cases)) first in
    omega (arith, spends, takes, long, added, same)
