-- Conflicts: a goal and the choices that make it false. Their clauses, what they forbid, and what a record of them allows.
-- Assumes nothing.
use Rattle.std.specs.Prelude.{◌≡◌, ℕ, ◌+◌, ◌<◌, Bool, true, false, cond, ◌||◌, List, [], ◌∷◌}
use Rattle.std.proofs.Math.Option.{Option, none, some}
use Rattle.syntax.specs.Values.{Values}
use Rattle.syntax.specs.Problems.{Problem}
use Rattle.judging.specs.Paths.{Path, Decision}
use Rattle.judging.specs.Assignments.{choice}
use Rattle.judging.specs.Asked.{◌∈◌}
use Rattle.finder.specs.Tables.{Table, opening, same_path, width}
use Rattle.finder.specs.Ways.{Way, decided}
use Rattle.finder.specs.Clauses.{off}

-- the unknown u has the constructor con
pub record Choice : Type 0 where
  pub at : Path
  pub con : ℕ

pub record Conflict : Type 0 where
  pub of : ℕ  -- the goal
  pub choices : List Choice

abbrev pub has : List Path → Path → Bool
has [] u = false
has (v ∷ E) u = same_path v u || has E u

abbrev pub add_choice : Path → Option ℕ → List Choice → List Choice
add_choice u none xs = xs
add_choice u (some c) xs = record { at = u; con = c } ∷ xs

-- the choices that δ makes for the unknowns of E, each once, in the order of the table
abbrev pub choices_of : Decision → List Path → Table → List Choice
choices_of δ E [] = []
choices_of δ E (x ∷ T) = cond (has E x.path) (add_choice x.path (δ x.path) (choices_of δ E T)) (choices_of δ E T)

-- the conflict of the goal g, judged false with the explanation E under the way w
abbrev pub conflict : Problem → Table → Way → ℕ → List Path → Conflict
conflict p T w g E = record { of = g; choices = choices_of (decided p T w) E T }

-- Its clause: the goal's switch is off, or one of the choices differs.
abbrev pub differs : ℕ → Option ℕ → List ℕ → List ℕ
differs c none ls = ls
differs c (some a) ls = off (a + c) ∷ ls

abbrev pub some_differs : Table → List Choice → List ℕ
some_differs T [] = []
some_differs T (x ∷ xs) = differs x.con (opening T x.at) (some_differs T xs)

abbrev pub conflict_clause : Table → Conflict → List ℕ
conflict_clause T k = off k.of ∷ some_differs T k.choices

-- the assignment α has all choices of the conflict
abbrev pub Forbids : Conflict → Values → Type 0
Forbids k α = (x : Choice) → x ∈ k.choices → choice α x.at ≡ some x.con

-- A full set has one case for each opened unknown. (What it says of others does not count.)
abbrev pub FullSet : Type 0
FullSet = Path → ℕ

abbrev pub Full : Problem → Table → FullSet → Type 0
Full p T F = (u : Path) (a : ℕ) → opening T u ≡ some a → F u < width p u

-- the full set F has all choices of the conflict
abbrev pub ForbidsSet : Conflict → FullSet → Type 0
ForbidsSet k F = (x : Choice) → x ∈ k.choices → F x.at ≡ x.con

-- the record allows the full sets that no conflict of a goal in force forbids
abbrev pub Allows : List Conflict → (ℕ → Bool) → FullSet → Type 0
Allows R force F = (k : Conflict) → k ∈ R → force k.of ≡ true → ForbidsSet k F → ⊥
