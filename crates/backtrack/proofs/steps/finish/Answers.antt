-- Past the end both rows read as 0.
use Rattle.std.proofs.Common.{◌≡◌, cond, eqb, get_or, sym, ap, ◌∙◌, ⊎_elim, arith}
use Rattle.std.proofs.lemmas.List.{get_or_past}
use Rattle.std.proofs.lemmas.Bool.{cases_lt}
use Rattle.backtrack.proofs.steps.finish.Goals as goal

pub returns : goal.returns
returns c k =
    let old = c.args.values.now in
    let out = c.loop-value.values in
    ⊎_elim
    (λ lt. c.loop-value.invariant.0 k lt)
    (λ ge.
    let a : get_or old k 0 ≡ 0 = get_or_past old k 0 (omega arith) in
    let b : get_or out k 0 ≡ 0 = get_or_past out k 0 (omega arith) in
    b ∙ sym (ap (λ x. cond (eqb x 2) 0 x) a))
    (cases_lt k c.loop-value.value-index)
