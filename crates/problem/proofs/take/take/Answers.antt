use Rattle.std.proofs.Common.{◌≡◌, false, is_ok}
use Rattle.std.proofs.lemmas.Option.{MatchOption-at_some, MatchOption-at_none}
use Rattle.std.proofs.lemmas.Result.{IfOk-weaker}
use Rattle.syntax.specs.Problems.{encode_end}
use Rattle.verdict.specs.Verdict.{verdict}
use Rattle.problem.specs.Meant.{held}
use Rattle.problem.specs.Taken.{Taken}
use Rattle.problem.proofs.Taking.{taken_accepted, taken_refused}
use Rattle.problem.proofs.take.take.Goals as goal

pub returns-in-Some : goal.returns-in-Some
returns-in-Some c =
    let bs = c.args.bytes.now in
    taken_accepted bs c.in-Some.problem
    (MatchOption-at_some (is_ok (verdict bs) ≡ false) (λ p. held p ≡ bs) c.in-Some.problem c.in-Some.is c.in_ok-problem.ensures)

pub returns-in-None : goal.returns-in-None
returns-in-None c =
    let bs = c.args.bytes.now in
    let bad = MatchOption-at_none (is_ok (verdict bs) ≡ false) (λ p. held p ≡ bs) c.in-None.is c.in_ok-problem.ensures in
    IfOk-weaker c.empty.result (λ p. held p ≡ encode_end) (Taken bs) (λ p same. taken_refused bs p bad same) c.empty.ensures
