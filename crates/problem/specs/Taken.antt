-- The problem that is taken from bytes. Assumes nothing.
use Rattle.std.specs.Prelude.{◌≡◌, ℕ, cond, List, is_ok}
use Rattle.syntax.specs.Problems.{encode_end, Problem as Meaning}
use Rattle.verdict.specs.Verdict.{verdict, decoded}
use Rattle.verdict.specs.Exact.{Encodes}
use Rattle.problem.specs.Meant.{held, meant}
use Rattle.problem.specs.declared.problem.Problem.{Problem}

-- Bytes that the check accepts are kept, and are the problem. Others give the empty problem, whose bytes are the end record alone.
-- So where the bytes encode a lawful problem, it is that one.
pub record Taken (bs : List ℕ) (p : Problem) : Type 0 where
  pub keeps : held p ≡ cond (is_ok (verdict bs)) bs encode_end
  pub means : meant p ≡ decoded bs
  pub encoded : (q : Meaning) → Encodes q bs → meant p ≡ q
