-- Which term is written at a place of a problem's bytes. Assumes nothing.
use Rattle.std.specs.Prelude.{◌≡◌, ℕ, List, ◌++◌, drop}
use Rattle.syntax.specs.Terms.{Term, encode}
use Rattle.syntax.specs.Typing.{HasType}
use Rattle.syntax.specs.Problems.{Problem, sig_of}

-- a problem and the bytes that write it
pub record Text : Type 0 where
  pub problem : Problem
  pub bytes : List ℕ

-- the term t is written at the place, and has a type
pub record Reads (x : Text) (place : ℕ) (t : Term) : Type 0 where
  pub scope : List ℕ
  pub ty : ℕ
  pub others : List ℕ
  pub here : drop place x.bytes ≡ encode t ++ others
  pub typed : HasType (sig_of x.problem) scope t ty
