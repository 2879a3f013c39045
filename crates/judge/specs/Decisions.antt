-- What a choice says of the unknowns. Assumes nothing.
use Rattle.std.specs.Prelude.{◌≡◌, ℕ, List, take, Some, None, Option}
use Rattle.std.proofs.Math.Option.{none, some}
use Rattle.judging.specs.Judging.{Unknowns}
use Rattle.judge.specs.declared.decides.Children.{Children}
use Rattle.judge.specs.declared.decides.Choice.{Choice}

abbrev pub numbers_of : Children → List ℕ
numbers_of a = take a.count a.numbers

-- the constructor chosen for u, with u's children under it
pub record Chosen (K : Unknowns ℕ) (u : ℕ) (c : Choice) : Type 0 where
  pub constructor : K.chosen u ≡ some c.constructor
  pub children : numbers_of c.children ≡ K.kids u c.constructor

abbrev pub Chooses : Unknowns ℕ → ℕ → Option Choice → Type 0
Chooses K u None = K.chosen u ≡ none
Chooses K u (Some c) = Chosen K u c
