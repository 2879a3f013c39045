use Rattle.std.proofs.Common.{Some, refl, ap, subst}
use Rattle.judging.specs.Held.{h[]}
use Rattle.judging.specs.Judging.{go_on, give, truth}
use Rattle.judge.specs.declared.answers.Verdict.{Verdict as CodeVerdict}
use Rattle.judge.specs.Means.{VerdictAs}
use Rattle.judge.proofs.outcomes.truth.Goals as goal

pub returns-in-Same-clause-agrees : goal.returns-in-Same-clause-agrees
returns-in-Same-clause-agrees c x l e f o h =
    let v = subst (λ (a : CodeVerdict). VerdictAs l e f (Some a) o) c.in-Same.is h.means in
    record { means = (h[], v.0, ap (go_on (λ v. give (truth v))) v.1, refl, tt, v.2) }

pub returns-in-Differ-clause-agrees : goal.returns-in-Differ-clause-agrees
returns-in-Differ-clause-agrees c x l e f o h =
    let v = subst (λ (a : CodeVerdict). VerdictAs l e f (Some a) o) c.in-Differ.is h.means in
    record { means = (h[], v.0, ap (go_on (λ v. give (truth v))) v.1, refl, tt, v.2) }
