use Rattle.std.proofs.Common.{◌++◌, refl, ap, ◌∙◌}
use Rattle.judging.specs.Held.{h[]}
use Rattle.judging.specs.Judging.{go_on, give, and_true}
use Rattle.judge.proofs.Sets.{adds_join}
use Rattle.judge.proofs.Agreeing.{as_head, not_false, both_true}
use Rattle.judge.proofs.outcomes.and_true.Goals as goal

pub returns-else-is_false-clause-agrees : goal.returns-else-is_false-clause-agrees
returns-else-is_false-clause-agrees c x l e E o w h =
    let v = as_head c.in-Is.is h in
    record {
      means = (
        h[],
        E ++ v.1,
        ap (go_on (λ h. give (and_true E h))) v.2 ∙ both_true E _ _ _ _ (not_false v.2 (c.is_false.ensures.no c.if-is_false.false x _ _ _ _ h)),
        refl,
        tt,
        adds_join _ c.args.own.now.words w v.5 c.join.ensures,
      );
    }
