-- What each call of a chooser over a row shows of its meaning.
use Rattle.std.proofs.Common.{◌≡◌, ℕ, ◌+◌, ◌≤◌, true, List, ◌∷◌, ◌++◌, length, refl, arith, length-append, vec_items}
use Rattle.chooser.specs.Ways.{lit, allotted}
use Rattle.chooser.specs.Meaning.{Local, Lawful}
use Rattle.chooser.specs.Steps.{Added}
use Rattle.rows.specs.Rows.{inside}
use Rattle.rows.specs.Meant.{meant}
use Rattle.rows.specs.Store.{store_means}
use Rattle.rows.proofs.Rows.{holds_same, holds_append}
use Rattle.rows.proofs.Lits.{lit_below}

module _ (row : List ℕ) (size most v : ℕ) where
  pub meant_local : inside v 0 row ≡ true → Local (meant row size most v)
  meant_local s p q h = holds_same (lit p) (lit q) v (lit_below p q v h) row true 0 s

  module _ (clause : List ℕ) (fits : length row + (length clause + 1) ≤ size) where
    pub meant_added : inside v 0 row ≡ true → allotted v clause ≡ true → Added (meant row size most v) (meant (row ++ (length clause ∷ clause)) size most v) clause
    meant_added s a =
        record {
          named = a;
          fits = omega arith;
          counts = refl;
          rooms = refl;
          shrinks = omega (arith, length-append row (length clause ∷ clause));
          spends = omega (arith, length-append row (length clause ∷ clause));
          allows = λ p. holds_append (lit p) v clause row true 0 s;
        }

-- the laws of what a store of clauses means
pub store_laws : Lawful store_means 4096
store_laws = record {
  local = λ s. meant_local (vec_items s.row) s.entries 4096 s.count s.whole;
  whole = λ s. let h = s.few in omega arith;
  small = omega arith;
}
