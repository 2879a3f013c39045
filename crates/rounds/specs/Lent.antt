-- What is lent to a search stays as long as it was. Assumes nothing.
use Rattle.std.specs.Prelude.{◌≡◌, length}
use Rattle.rounds.specs.declared.search.Lent.{Lent}

pub record Kept (l l' : Lent) : Type 0 where
  pub places : length l'.places.now ≡ length l.places.now
  pub literals : length l'.literals.now ≡ length l.literals.now
