use Rattle.std.proofs.Common.{◌≡◌, ◌+◌, ◌<◌, [], ◌∷◌, Err, get_or, length, ap, sym, ◌∙◌, subst, drop, arith}
use Rattle.std.proofs.lemmas.Result.{err_from_is_err_and}
use Rattle.syntax.specs.Tables.{declared_in}
use Rattle.syntax.specs.Typing.{Sig}
use Rattle.reading.specs.Reading.{reads}
use Rattle.terms.specs.Tasks.{stack_of, put, NoneLeft, Stops, Advances}
use Rattle.terms.specs.Stacks.{on}
use Rattle.terms.proofs.Piles.{some}
use Rattle.terms.proofs.Checking.{answer, by_ok, some_by_ok, none_by_err, refused_at, goes_on, halts, ends, lacks}
use Rattle.terms.proofs.check.Checker.run.Goals.{in-None, in-Some}
use Rattle.terms.proofs.check.Checker.run.Goals as goal

pub returns-in_err-task-clause-exact : goal.returns-in_err-task-clause-exact
returns-in_err-task-clause-exact c =
    let sig = c.args.self.now in
    let l = c.loop-at in
    let b = get_or c.args.bytes.now l.at 0 in
    let none = none_by_err l.next c.at-refused.result _ (sym c.ok_or.ensures.value ∙ c.in_err-task.was) in
    let left : on l.stack ≡ [] = subst (λ o. NoneLeft o (on l.stack)) none.0 l.invariant.3 in
    let empty : stack_of sig l.context.scope (put l.next (on l.stack)) ≡ [] = ap (λ o. stack_of sig l.context.scope (put o (on l.stack))) none.0 ∙ ap (stack_of sig l.context.scope) left in
    let p = err_from_is_err_and c.from_residual.result c.from_residual.ensures.1 in
    p.1 ∙ ap Err (p.2 ∙ none.1 ∙ c.at-refused.ensures)
    ∙ sym (l.invariant.4 ∙ halts sig c.args.bytes.now c.args.base l.at (stack_of sig l.context.scope (put l.next (on l.stack))) c.loop-at-test.true (subst (λ js. Stops sig js b) (sym empty) tt))

pub loop-at-preserved : goal.loop-at-preserved
loop-at-preserved c =
    let sig = c.args.self.now in
    let l = c.loop-at in
    let b = get_or c.args.bytes.now l.at 0 in
    let x = c.in_ok-task.task in
    let next = c.in_ok-next.next in
    let same = some_by_ok l.next c.at-refused.result x (sym c.ok_or.ensures.value ∙ c.in_ok-task.was) in
    let Moved : Sig → Type 0 = λ d. Advances d l.context.scope c.advance.new.context.scope (x ∷ on l.stack) (put next (on c.advance.new.stack)) b in
    let moved : Moved (declared_in l.context.sig) × NoneLeft next (on c.advance.new.stack) =
    by_ok (λ n. Advances (declared_in l.context.sig) l.context.scope c.advance.new.context.scope (x ∷ on l.stack) (put n (on c.advance.new.stack)) b × NoneLeft n (on c.advance.new.stack)) _
    c.advance.result c.at-refused.result next (sym c.or.ensures ∙ c.in_ok-next.was) c.advance.ensures.is in
    let e : Moved sig = subst Moved l.invariant.1 moved.0 in
    let long = ap (λ o. length (put o (on l.stack))) same in
    let few = e.few in (
      omega arith,
      ap declared_in c.advance.ensures.sig ∙ l.invariant.1,
      e.piled,
      moved.1,
      l.invariant.4 ∙ ap (λ o. answer (reads sig (stack_of sig l.context.scope (put o (on l.stack))) (drop l.at c.args.bytes.now) (c.args.base + l.at))) same
          ∙ goes_on sig c.args.bytes.now c.args.base l.at (stack_of sig l.context.scope (x ∷ on l.stack)) _ c.loop-at-test.true e.moves,
      c.advance.ensures.room ∙ l.invariant.5,
    )

pub returns-clause-exact : goal.returns-clause-exact
returns-clause-exact c =
    let sig = c.args.self.now in
    let l = c.loop-at in
    let base = c.args.base in
    let bytes = c.args.bytes.now in
    let ts = put l.next (on l.stack) in
    let is = stack_of sig l.context.scope ts in
    let last : base + l.at ≡ base + length bytes = omega arith in
    elim c.match-next.branch [
      | in-None w ↦
          let left : on l.stack ≡ [] = subst (λ o. NoneLeft o (on l.stack)) w.in-None.is l.invariant.3 in
          let empty : ts ≡ [] = ap (λ o. put o (on l.stack)) w.in-None.is ∙ left in
          w.result-is ∙ sym (l.invariant.4 ∙ ends sig bytes base l.at is c.loop-at-test.false (ap (stack_of sig l.context.scope) empty))
      | in-Some w ↦
          let up : 0 < length ts = omega (arith, ap (λ o. length (put o (on l.stack))) w.in-Some.is) in
          let has = some sig l.context.scope ts 64 up l.invariant.2 in
          w.result-is ∙ ap Err w.at.ensures
          ∙ sym (l.invariant.4 ∙ lacks sig bytes base l.at is c.loop-at-test.false has.0 has.1 has.2 ∙ ap refused_at last)
    ]
