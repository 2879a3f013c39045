-- What is known before the first clause of the row is added.
use Rattle.std.proofs.Common.{◌≡◌, ℕ, true, ◌&&◌, List, sym, refl, ap, arith}
use Rattle.chooser.specs.Ways.{lit}
use Rattle.chooser.specs.Meaning.{Meaning}
use Rattle.rows.specs.Rows.{inside, clauses_of}
use Rattle.rows.proofs.Clauses.{holds_clauses, clauses_named, clauses_spread}
use Rattle.decide.specs.Adding.{Adding}

pub adding_none : (s : Meaning) (row : List ℕ) → inside s.count 0 row ≡ true → Adding s s row (clauses_of row)
adding_none s row whole =
    record {
      named = clauses_named s.count 0 row whole;
      counts = refl;
      rooms = refl;
      shrinks = omega arith;
      spends = omega (arith, clauses_spread s.count 0 row whole);
      allows = λ p. ap (λ b. s.ways p && b) (sym (holds_clauses (lit p) row));
    }
