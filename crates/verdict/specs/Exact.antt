-- Which bytes are accepted: exactly the encodings of lawful problems, each of one problem. Assumes nothing.
use Rattle.std.specs.Prelude.{◌≡◌, ℕ, List, Ok, Err, Result}
use Rattle.syntax.specs.declared.faults.Fault.{Fault}
use Rattle.syntax.specs.Problems.{Problem, Lawful, encode_problem}
use Rattle.tables.specs.Exact.{Bytes}
use Rattle.verdict.specs.Verdict.{verdict}

-- p is lawful, and the bytes are its encoding
pub record Encodes (p : Problem) (bs : List ℕ) : Type 0 where
  pub lawful : Lawful p
  pub is : encode_problem p ≡ bs

-- the bytes encode a lawful problem, and only this one
pub record OneProblem (bs : List ℕ) : Type 0 where
  pub problem : Problem
  pub encodes : Encodes problem bs
  pub only : (q : Problem) → Encodes q bs → q ≡ problem

-- accepted exactly if the bytes encode a lawful problem, which is then the only one
abbrev pub Says : List ℕ → Result (Unit {0}) Fault → Type 0
Says bs (Ok u) = OneProblem bs
Says bs (Err f) = (p : Problem) → Encodes p bs → ⊥

-- the verdict is the problem that was encoded
pub record DecodedAs (bs : List ℕ) (p : Problem) : Type 0 where
  pub sound : Bytes bs → verdict bs ≡ Ok p → Encodes p bs
  pub complete : Encodes p bs → verdict bs ≡ Ok p

abbrev pub VerdictIsExact : Type 0
VerdictIsExact = (bs : List ℕ) (p : Problem) → DecodedAs bs p
