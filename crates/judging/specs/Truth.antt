-- Goals under assignments: what a false judgement forbids, and what a true one allows. Assumes nothing.
use Rattle.std.specs.Prelude.{◌≡◌, ℕ, List}
use Rattle.std.proofs.Math.Option.{some}
use Rattle.syntax.specs.Values.{Values}
use Rattle.syntax.specs.Problems.{Problem}
use Rattle.judging.specs.Held.{Helds, goal}
use Rattle.judging.specs.Paths.{Path, Decision, under}
use Rattle.judging.specs.Meaning.{Yields}
use Rattle.judging.specs.Asked.{◌∈◌}
use Rattle.judging.specs.Reached.{Reached}
use Rattle.judging.specs.Assignments.{choice, Judged, ComesTrue}

-- A goal judged false with E does not come to true under an assignment that has all the choices of E.
abbrev pub FalseForbids : Type 0
FalseForbids =
    (p : Problem) (δ : Decision) (g : ℕ) (E : List Path) → Judged p δ g 0 E
    → (α : Values) → ((u : Path) (c : ℕ) → u ∈ E → δ u ≡ some c → choice α u ≡ some c) → ComesTrue p α g → ⊥

-- A goal judged true comes to true under every assignment that has all the choices reached.
abbrev pub TrueAllows : Type 0
TrueAllows =
    (p : Problem) (δ : Decision) (g : ℕ) (E : List Path) → Judged p δ g 1 E
    → (α : Values) → ((u : Path) (c : ℕ) → Reached δ u → δ u ≡ some c → choice α u ≡ some c) → ComesTrue p α g

-- A goal that comes to true under an assignment means true under all its choices.
abbrev pub TrueMeans : Type 0
TrueMeans =
    (p : Problem) (α : Values) (g : ℕ) → ComesTrue p α g → (xs : Helds Path) × Yields p (under p (choice α)) (goal p g) 1 xs

-- the choices of an assignment are reached by its choices
abbrev pub ChoicesReached : Type 0
ChoicesReached = (α : Values) (u : Path) (c : ℕ) → choice α u ≡ some c → Reached (choice α) u
