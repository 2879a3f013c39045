-- What a way decides: a way gives each variable 0 or 1, and an opened unknown the case whose variable is 1. Assumes nothing.
use Rattle.std.specs.Prelude.{◌≡◌, ℕ, zero, suc, ◌+◌, ◌<◌, Bool, true, false, cond, ◌&&◌, [], ◌∷◌, ◌==◌}
use Rattle.std.proofs.Math.Option.{Option, none, some}
use Rattle.syntax.specs.Problems.{Problem}
use Rattle.judging.specs.Paths.{Path, Decision}
use Rattle.finder.specs.Tables.{Table, opening, width}

abbrev pub Way : Type 0
Way = ℕ → Bool

-- among the m variables from a on, w has exactly one
pub record OneCase (w : Way) (a m : ℕ) : Type 0 where
  pub case : ℕ
  pub is_case : case < m
  pub chosen : w (a + case) ≡ true
  pub only : (d : ℕ) → d < m → w (a + d) ≡ true → d ≡ case

-- the same, as a test: how many of the m variables from a on are 1
abbrev pub bit : Bool → ℕ
bit false = 0
bit true = 1

abbrev pub how_many : Way → ℕ → ℕ → ℕ
how_many w a zero = 0
how_many w a (suc m) = bit (w (a + m)) + how_many w a m

abbrev pub one_of : Problem → Way → Path → Option ℕ → Bool
one_of p w u none = true
one_of p w u (some a) = how_many w a (width p u) == 1

-- every opened unknown has exactly one case
abbrev pub decides_all : Problem → Way → Table → Bool
decides_all p w [] = true
decides_all p w (x ∷ T) = one_of p w x.path x.first && decides_all p w T

-- the case that w gives the m variables from a on: the last, should there be more than one
abbrev pub case_at : Way → ℕ → ℕ → Option ℕ
case_at w a zero = none
case_at w a (suc m) = cond (w (a + m)) (some m) (case_at w a m)

abbrev pub case_of : Way → ℕ → Option ℕ → Option ℕ
case_of w m none = none
case_of w m (some a) = case_at w a m

-- the decision of a way on the unknowns of a table
abbrev pub decided : Problem → Table → Way → Decision
decided p T w u = case_of w (width p u) (opening T u)
