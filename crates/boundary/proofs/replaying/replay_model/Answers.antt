-- The answer's first bytes are lent to the replay; the others stay.
use Rattle.std.proofs.Common.{◌≡◌, ◌*◌, ◌++◌, length, drop, Err, sym, ap, ◌∙◌, subst, arith, length-take}
use Rattle.std.proofs.lemmas.Result.{err_from_is_err_and}
use Rattle.replay.specs.Replays.{accepted}
use Rattle.boundary.specs.Replaying.{goal_bytes, JudgedBy, Judged}
use Rattle.boundary.proofs.Verdicts.{ok_of, meant_of}
use Rattle.boundary.proofs.Replays.{refused_front, judged_front}
use Rattle.problem.specs.Meant.{meant}
use Rattle.boundary.proofs.replaying.replay_model.Goals as goal

pub returns-in_err-replay-clause-judged : goal.returns-in_err-replay-clause-judged
returns-in_err-replay-clause-judged c =
    let bs = c.args.bytes.now in
    let p = c.in_ok-problem.problem in
    let model = c.args.model.now in
    let steps = c.args.steps in
    let before = c.args.answer.now in
    let after = c.replay.new.answer ++ drop c.min-judged.result before in
    let f = err_from_is_err_and c.from_residual-in_err-replay.result c.from_residual-in_err-replay.ensures.1 in
    subst (Judged bs model steps before after) (sym (f.1 ∙ ap Err f.2)) (
      ok_of bs p c.in_ok-problem.ensures,
      subst (λ q. accepted q model steps (6 * steps) (goal_bytes q before) ≡ Err c.in_err-replay.field-0.0) (meant_of bs p c.in_ok-problem.ensures)
          (refused_front (meant p) model steps before (length c.deref_mut.result.now) c.min-judged.result c.in_err-replay.field-0.0
          (λ few. omega (arith, c.deref_mut.ensures.len, c.in_ok-places.ensures.len)) (omega arith) c.in_err-replay.ensures.0),
    )

pub returns-clause-judged : goal.returns-clause-judged
returns-clause-judged c =
    let bs = c.args.bytes.now in
    let p = c.in_ok-problem.problem in
    let model = c.args.model.now in
    let steps = c.args.steps in
    let before = c.args.answer.now in
    let after = c.replay.new.answer ++ drop c.min-judged.result before in
    let judged : JudgedBy (meant p) model steps before after (length (meant p).goals) =
    judged_front (meant p) model steps c.in_ok-replay.field-0 before c.replay.new.answer (length c.deref_mut.result.now) c.min-judged.result
    (λ few. omega (arith, c.deref_mut.ensures.len, c.in_ok-places.ensures.len)) (omega arith) (omega (arith, length-take c.min-judged.result before)) c.in_ok-replay.ensures in (
      ok_of bs p c.in_ok-problem.ensures,
      subst (λ q. JudgedBy q model steps before after c.goals-goals.result) (meant_of bs p c.in_ok-problem.ensures)
          (subst (JudgedBy (meant p) model steps before after) (sym c.goals-goals.ensures) judged),
    )
