-- What is taken from bytes: the problem that they are, or else the empty one. Assumes nothing.
use Rattle.std.proofs.Common.{◌≡◌, ℕ, true, false, cond, List, is_ok, Ok, Err, Result, sym, refl, ap, ◌∙◌}
use Rattle.std.proofs.lemmas.Bool.{true≢false}
use Rattle.syntax.specs.declared.faults.Fault.{Fault}
use Rattle.syntax.specs.Problems.{empty_problem, encode_end, Problem as Meaning}
use Rattle.verdict.specs.Verdict.{verdict, problem_in, decoded}
use Rattle.verdict.proofs.Exact.{verdict_is_exact}
use Rattle.kept.specs.Layout.{read_from}
use Rattle.problem.specs.Meant.{held}
use Rattle.problem.specs.Taken.{Taken}
use Rattle.problem.specs.declared.problem.Problem.{Problem}

reads_decoded : (bs : List ℕ) → read_from bs ≡ decoded bs
unfolding read_from
reads_decoded bs = refl

reads_nothing : read_from encode_end ≡ empty_problem
unfolding read_from
reads_nothing = refl

refused : (r : Result Meaning Fault) → is_ok r ≡ false → problem_in r ≡ empty_problem
refused (Ok p) e = absurd (true≢false e)
refused (Err f) e = refl

pub taken_accepted : (bs : List ℕ) (p : Problem) → held p ≡ bs → Taken bs p
taken_accepted bs p same =
    let ok : is_ok (verdict bs) ≡ true = ap (λ b. is_ok (verdict b)) (sym same) ∙ p.holds.accepted in
    let means = ap read_from same ∙ reads_decoded bs in
    record {
      keeps = same ∙ sym (ap (λ b. cond b bs encode_end) ok);
      means = means;
      encoded = λ q e. means ∙ ap problem_in ((verdict_is_exact bs q).complete e);
    }

pub taken_refused : (bs : List ℕ) (p : Problem) → is_ok (verdict bs) ≡ false → held p ≡ encode_end → Taken bs p
taken_refused bs p bad same =
    record {
      keeps = same ∙ sym (ap (λ b. cond b bs encode_end) bad);
      means = ap read_from same ∙ reads_nothing ∙ sym (refused (verdict bs) bad);
      encoded = λ q e. absurd (true≢false (sym (ap is_ok ((verdict_is_exact bs q).complete e)) ∙ bad));
    }
