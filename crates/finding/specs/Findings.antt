-- What a finding in code says: of the goals as they are judged by numbers, and by the paths of a table that stands.
-- Assumes nothing.
use Rattle.std.specs.Prelude.{◌≡◌, ℕ, ◌<◌, Bool, true, List, ◌∷◌, length, Option}
use Rattle.std.proofs.Math.Option.{none}
use Rattle.syntax.specs.Problems.{Problem}
use Rattle.judging.specs.Judging.{Unknowns}
use Rattle.judging.specs.Paths.{Path, under}
use Rattle.held.specs.Explanations.{contains}
use Rattle.judge.specs.Means.{Explains}
use Rattle.finder.specs.Tables.{Table, opening}
use Rattle.finder.specs.Ways.{Way, decides_all, decided}
use Rattle.finder.specs.Clauses.{off}
use Rattle.finder.specs.Conflicts.{conflict, conflict_clause}
use Rattle.finder.specs.Findings.{finding, out_of_steps, false_goal, waiting_goal, all_true}
use Rattle.places.specs.Places.{at, marked_literals}
use Rattle.unknowns.specs.Force.{forced}
use Rattle.unknowns.specs.Listing.{Stands, DecidesAs}
use Rattle.unknowns.specs.declared.table.Table.{Table as Code}
use Rattle.unknowns.specs.declared.table.Case.{Case}
use Rattle.finding.specs.declared.find.Finding.{Finding}
use Rattle.finding.specs.declared.find.Finding.TheVariants.{Out, False, Waiting, True}

-- what is found when the goals are judged by the unknowns K, with a false goal's explanation in the set `words`
abbrev pub FindsBy : Problem → Unknowns ℕ → (ℕ → Bool) → ℕ → List ℕ → Finding → Type 0
FindsBy p K force steps words (Out g) = finding p K force steps ≡ out_of_steps g
FindsBy p K force steps words (False g) = (E : List ℕ) × (finding p K force steps ≡ false_goal g E) × Explains words E
FindsBy p K force steps words (Waiting u) = (g : ℕ) × (finding p K force steps ≡ waiting_goal g u)
FindsBy p K force steps words True = finding p K force steps ≡ all_true

-- What is found under the way w, by the paths of the table. A false goal's conflict has the clause of the literals that the set
-- marks; a goal waits on an unknown of the table that is not opened.
abbrev pub Finds : Problem → Table → Way → (ℕ → Bool) → ℕ → List ℕ → Finding → Type 0
Finds p T w force steps words (Out g) = finding p (under p (decided p T w)) force steps ≡ out_of_steps g
Finds p T w force steps words (False g) =
    (E : List Path) × (finding p (under p (decided p T w)) force steps ≡ false_goal g E)
    × (conflict_clause T (conflict p T w g E) ≡ off g ∷ marked_literals p w (contains words) 0 T)
    × (length (conflict p T w g E).choices ≡ length (marked_literals p w (contains words) 0 T)) × (g < length p.goals)
Finds p T w force steps words (Waiting i) =
    (g : ℕ) × (finding p (under p (decided p T w)) force steps ≡ waiting_goal g (at T i)) × (i < length T) × (opening T (at T i) ≡ none)
Finds p T w force steps words True = finding p (under p (decided p T w)) force steps ≡ all_true

-- so it is for each table that stands and each way that gives each opened unknown exactly one case, if the cases are those
pub record FoundAs (p : Problem) (cases : List (Option Case)) (force : List Bool) (steps : ℕ) (words : List ℕ) (r : Finding) : Type 0 where
  pub finds : (t : Code) (T : Table) (count : ℕ) (w : Way) → Stands p t T count → DecidesAs p t T w cases → decides_all p w T ≡ true
      → Finds p T w (forced force) steps words r
