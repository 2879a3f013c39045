-- A term that was read.
use Rattle.std.proofs.Common.{◌≡◌, ℕ, Ok, Err, Result, ap}
use Rattle.syntax.specs.Terms.{Term}
use Rattle.records.proofs.Results.{never_ok}
use Rattle.verdict.specs.Verdict.{term_in}

pub term_was : (r : Result Term ℕ) {t : Term} → term_in r ≡ Ok t → r ≡ Ok t
term_was (Ok u) e = let q : u ≡ _ = cc in ap Ok q
term_was (Err p) q = never_ok q
