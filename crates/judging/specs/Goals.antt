-- What a judged goal gives, in one place: by paths, and by numbers that name paths. Assumes nothing.
use Rattle.std.specs.Prelude.{◌≡◌, ℕ, List, map}
use Rattle.std.proofs.Math.Option.{none, some}
use Rattle.syntax.specs.Problems.{Problem, sig_of, Lawful}
use Rattle.judging.specs.Held.{Helds, goal}
use Rattle.judging.specs.Judging.{Unknowns, is, waits, judge}
use Rattle.judging.specs.Paths.{Path, child, Decision}
use Rattle.judging.specs.Asked.{◌∈◌}
use Rattle.judging.specs.Reached.{Reached, Exists}
use Rattle.judging.specs.Assignments.{Judged, Awaits}
use Rattle.judging.specs.Names.{Names}

-- Each unknown of a goal's explanation is decided, reached and there is such a one; with each the explanation holds the unknown
-- that it is an argument of.
pub record Explains (p : Problem) (δ : Decision) (E : List Path) : Type 0 where
  pub decided : (u : Path) → u ∈ E → (c : ℕ) × (δ u ≡ some c)
  pub reached : (u : Path) → u ∈ E → Reached δ u
  pub exists : (u : Path) → u ∈ E → Exists (sig_of p) u
  pub closed : (u : Path) (c j : ℕ) → child u c j ∈ E → (u ∈ E) × (δ u ≡ some c)

abbrev pub GoalExplains : Type 0
GoalExplains = (p : Problem) → Lawful p → (δ : Decision) (g c : ℕ) (E : List Path) → Judged p δ g c E → Explains p δ E

-- what a goal waits on is undecided, reached, and there is such a one
abbrev pub GoalWaits : Type 0
GoalWaits =
    (p : Problem) → Lawful p → (δ : Decision) (g : ℕ) (u : Path) → Awaits p δ g u
    → (δ u ≡ none) × Reached δ u × Exists (sig_of p) u

-- judged, and waiting, by numbers: so by the paths that they name
abbrev pub JudgedByNames : Type 0
JudgedByNames =
    (p : Problem) → Lawful p → (K : Unknowns ℕ) (path : ℕ → Path) (δ : Decision) → Names p K path δ
    → (g s left c : ℕ) (xs : Helds ℕ) (E : List ℕ) → judge p K (goal p g) s ≡ some (is c xs E, left) → Judged p δ g c (map path E)

abbrev pub AwaitsByNames : Type 0
AwaitsByNames =
    (p : Problem) → Lawful p → (K : Unknowns ℕ) (path : ℕ → Path) (δ : Decision) → Names p K path δ
    → (g s left u : ℕ) → judge p K (goal p g) s ≡ some (waits u, left) → Awaits p δ g (path u)
