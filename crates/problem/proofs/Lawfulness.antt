-- The bytes of a problem encode the problem that they mean, and it is lawful: from the verdict, by way of the records. Assumes nothing.
use Rattle.std.proofs.Common.{◌≡◌, ℕ, true, List, is_ok, Ok, Err, Result, sym, refl, ◌∙◌}
use Rattle.std.proofs.lemmas.Bool.{false≢true}
use Rattle.syntax.specs.declared.faults.Fault.{Fault}
use Rattle.syntax.specs.Problems.{Problem, Lawful, encode_problem}
use Rattle.tables.proofs.Exactness.{within_limits}
use Rattle.verdict.specs.Verdict.{verdict, problem_in}
use Rattle.verdict.specs.Exact.{Encodes}
use Rattle.verdict.proofs.Exact.{came, encoded}
use Rattle.kept.specs.Layout.{read_from}
use Rattle.kept.proofs.Records.{same_bytes}
use Rattle.problem.specs.declared.problem.Problem.{Problem as Taken}
use Rattle.problem.specs.Meant.{held, meant}

-- what was accepted is its problem
pub was_accepted : (r : Result Problem Fault) → is_ok r ≡ true → r ≡ Ok (problem_in r)
was_accepted (Ok p) e = refl
was_accepted (Err f) e = absurd (false≢true e)

pub is_encoded : (bs : List ℕ) → is_ok (verdict bs) ≡ true → encode_problem (read_from bs) ≡ bs → Encodes (read_from bs) bs
unfolding read_from
is_encoded bs ok written =
    let p = problem_in (verdict bs) in
    let c = came bs p (was_accepted (verdict bs) ok) in
    let w = sym (same_bytes c.raw p c.terms) ∙ written in
    encoded bs p c.raw w (within_limits bs c.raw c.read w) c.all_declared c.none_deep c.terms

pub lawful : (p : Taken) → Lawful (meant p)
lawful p = (is_encoded (held p) p.holds.accepted p.holds.written).lawful
