-- The text of a problem, and terms that are written one after another in it. Assumes nothing.
use Rattle.std.specs.Prelude.{ℕ, suc, List}
use Rattle.syntax.specs.Terms.{Terms, t[], ◌t∷◌}
use Rattle.syntax.specs.Typing.{Sig, Want}
use Rattle.syntax.specs.Problems.{sig_of}
use Rattle.ends.specs.Ends.{ends_of}
use Rattle.problem.specs.declared.problem.Problem.{Problem}
use Rattle.problem.specs.Meant.{held, meant}
use Rattle.problem.specs.Views.{Row}
use Rattle.held.specs.Reading.{Text}

abbrev pub text_of : Problem → Text
text_of p = record { problem = meant p; bytes = held p }

abbrev pub sig_in : Text → Sig
sig_in x = sig_of x.problem

-- the terms stand one after another from the place on, and have types
pub record ReadsAll (x : Text) (place : ℕ) (ts : Terms) : Type 0 where
  pub wants : List Want
  pub row : Row (sig_in x) x.bytes (ends_of (sig_in x) x.bytes) place wants ts

abbrev pub tlength : Terms → ℕ
tlength t[] = 0
tlength (t t∷ ts) = suc (tlength ts)
