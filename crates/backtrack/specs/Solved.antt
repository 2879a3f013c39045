-- What the search answers.
use Rattle.std.specs.Prelude.{◌≡◌, ℕ, Bool, true, false, ◌&&◌, List}
use Rattle.chooser.specs.Ways.{lit, every, written, bits}
use Rattle.chooser.specs.declared.Answer.{Answer}
use Rattle.chooser.specs.declared.Answer.TheVariants.{Yes, No}
use Rattle.rows.specs.Rows.{holds}

-- the ways that meet every clause of the row and every assumption
abbrev pub allowed : List ℕ → List ℕ → (ℕ → Bool) → Bool
allowed row assumptions p = holds (lit p) true 0 row && every (lit p) assumptions

pub record Hit (row assumptions values : List ℕ) : Type 0 where
  pub binary : bits values ≡ true
  pub meets : allowed row assumptions (written values) ≡ true

abbrev pub Solved : List ℕ → List ℕ → List ℕ → Answer → Type 0
Solved row assumptions values Yes = Hit row assumptions values
Solved row assumptions values No = (p : ℕ → Bool) → allowed row assumptions p ≡ false
