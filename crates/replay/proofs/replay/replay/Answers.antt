use Rattle.std.proofs.Common.{◌≡◌, length, ◌∙◌, arith}
use Rattle.problem.specs.Meant.{meant}
use Rattle.replay.proofs.Accepting.{is_accepted, same_answer}
use Rattle.replay.proofs.replay.replay.Goals as goal

pub returns : goal.returns
returns c =
    let p = c.args.problem.now in
    let r = c.in_ok-model.ensures in
    let long : length c.args.answer.now ≡ length (meant p).goals = c.if-answer-goals.false ∙ c.goals.ensures in (
      r.0,
      is_accepted (meant p) c.args.bytes.now r.0 c.args.steps (length c.args.memory.now) (length c.args.answer.now) c.if-steps-lt1.false c.if-steps-gt-MOST_STEPS.false c.if-memory-steps.false long r.1,
      λ g h. c.judge_all.ensures g (omega (arith, c.judge_all.auto.answer)) ∙ same_answer p c.args.bytes.now r.0 c.in_ok-model.model c.args.steps g r.2,
    )
