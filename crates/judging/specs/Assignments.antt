-- Assignments, their choices, and when a goal comes to true under one. Assumes nothing.
use Rattle.std.specs.Prelude.{◌≡◌, ℕ, zero, suc, cond, List, ◌==◌}
use Rattle.std.proofs.Math.Option.{Option, none, some}
use Rattle.syntax.specs.Values.{Value, Values, build, v[], ◌v∷◌, OfTypes}
use Rattle.syntax.specs.Problems.{Problem, sig_of}
use Rattle.judging.specs.Held.{Helds, goal}
use Rattle.judging.specs.Judging.{is, waits, judge}
use Rattle.judging.specs.Paths.{Path, root, child, Decision, under}

-- An assignment gives each unknown of the problem a value of its type, in order.
abbrev pub Assigns : Problem → Values → Type 0
Assigns p α = OfTypes (sig_of p) p.unknowns α

abbrev pub nth : Values → ℕ → Option Value
nth v[] j = none
nth (v v∷ vs) zero = some v
nth (v v∷ vs) (suc j) = nth vs j

-- argument j of a value whose constructor is c
abbrev pub argument : ℕ → ℕ → Option Value → Option Value
argument c j none = none
argument c j (some (build d vs)) = cond (d == c) (nth vs j) none

-- what stands at a path in α: nothing where α does not reach it
abbrev pub part : Values → Path → Option Value
part α (root k) = nth α k
part α (child u c j) = argument c j (part α u)

abbrev pub constructor_of : Option Value → Option ℕ
constructor_of none = none
constructor_of (some (build c vs)) = some c

-- The choices of α: the constructors in it, each at its path.
abbrev pub choice : Values → Decision
choice α u = constructor_of (part α u)

-- δ decides nothing but choices of α
abbrev pub Among : Decision → Values → Type 0
Among δ α = (u : Path) (c : ℕ) → δ u ≡ some c → choice α u ≡ some c

-- With some number of steps, the goal g is judged to have the constructor c with the explanation E. (0 is false, 1 is true.)
pub record Judged (p : Problem) (δ : Decision) (g c : ℕ) (E : List Path) : Type 0 where
  pub steps : ℕ
  pub left : ℕ
  pub args : Helds Path
  pub judged : judge p (under p δ) (goal p g) steps ≡ some (is c args E, left)

-- with some number of steps, the goal g waits on u
pub record Awaits (p : Problem) (δ : Decision) (g : ℕ) (u : Path) : Type 0 where
  pub steps : ℕ
  pub left : ℕ
  pub judged : judge p (under p δ) (goal p g) steps ≡ some (waits u, left)

-- The goal g comes to true under α: with some of α's choices decided and the others undecided, it is judged true.
pub record ComesTrue (p : Problem) (α : Values) (g : ℕ) : Type 0 where
  pub from : Decision
  pub among : Among from α
  pub because : List Path
  pub judging : Judged p from g 1 because
