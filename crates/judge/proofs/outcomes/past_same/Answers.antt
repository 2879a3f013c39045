use Rattle.std.proofs.Common.{◌++◌, Some, sym, ap, subst}
use Rattle.judging.specs.Judging.{go_on, give, after_same}
use Rattle.judge.specs.declared.answers.Verdict.{Verdict as CodeVerdict}
use Rattle.judge.specs.Means.{VerdictAs, Concurs}
use Rattle.judge.proofs.Sets.{adds_join}
use Rattle.judge.proofs.outcomes.past_same.Goals as goal

pub returns-in-Same : goal.returns-in-Same
returns-in-Same c l e E o w h =
    let v = subst (λ (a : CodeVerdict). VerdictAs l e c.args.because.now.words (Some a) o) c.in-Same.is h.means in
    subst (λ (a : CodeVerdict). Concurs l e c.join.new.self.words (Some a) (go_on (λ v. give (after_same E v)) o)) (sym c.in-Same.is)
    (record { means = (E ++ v.0, ap (go_on (λ v. give (after_same E v))) v.1, adds_join _ c.args.own.now.words w v.2 c.join.ensures) })
