-- What is claimed of places: judging by places is judging by the paths that they name, and openings keep the places right.
-- Assumes nothing.
use Rattle.std.specs.Prelude.{◌≡◌, ℕ, ◌<◌, Bool, cond, List, ◌∷◌, map, length, ◌==◌}
use Rattle.std.proofs.Math.Option.{none}
use Rattle.syntax.specs.Problems.{Problem, Lawful}
use Rattle.judging.specs.Paths.{under}
use Rattle.judging.specs.Names.{Names}
use Rattle.held.specs.Explanations.{member}
use Rattle.finder.specs.Tables.{Table, opening, first_table, opened_at, Tabled}
use Rattle.finder.specs.Ways.{Way, decided}
use Rattle.finder.specs.Clauses.{off}
use Rattle.finder.specs.Conflicts.{conflict, conflict_clause}
use Rattle.finder.specs.Findings.{finding, false_goal}
use Rattle.places.specs.Places.{at, Placed, places, named_finding, marked_literals, Appends}

-- the places name the paths of the table
abbrev pub PlacesName : Type 0
PlacesName =
    (p : Problem) (T : Table) (count : ℕ) (kids : ℕ → ℕ) (w : Way) → Tabled p T count → Placed p T kids
    → Names p (places p T kids w) (at T) (decided p T w)

-- so what a round finds by places is what it finds by paths
abbrev pub FoundByPlaces : Type 0
FoundByPlaces =
    (p : Problem) → Lawful p → (T : Table) (count : ℕ) (kids : ℕ → ℕ) (w : Way) → Tabled p T count → Placed p T kids
    → (force : ℕ → Bool) (steps : ℕ)
    → finding p (under p (decided p T w)) force steps ≡ named_finding (at T) (finding p (places p T kids w) force steps)

-- The clause of a conflict that was found by places: the goal's switch is off, or the case of some marked entry differs, where
-- the marks are the explanation. It has a literal for each choice, and the switch's.
abbrev pub ConflictByPlaces : Type 0
ConflictByPlaces =
    (p : Problem) → Lawful p → (T : Table) (count : ℕ) (kids : ℕ → ℕ) (w : Way) → Tabled p T count → Placed p T kids
    → (force : ℕ → Bool) (steps g : ℕ) (E : List ℕ) → finding p (places p T kids w) force steps ≡ false_goal g E
    → (marks : ℕ → Bool) → ((i : ℕ) → i < length T → marks i ≡ member E i)
    → (conflict_clause T (conflict p T w g (map (at T) E)) ≡ off g ∷ marked_literals p w marks 0 T)
    × (length (conflict p T w g (map (at T) E)).choices ≡ length (marked_literals p w marks 0 T))

-- at the start, and after an opening, the places are right
abbrev pub BeginsPlaced : Type 0
BeginsPlaced = (p : Problem) → Placed p (first_table p) (λ i. 0)

abbrev pub OpeningPlaces : Type 0
OpeningPlaces =
    (p : Problem) (T : Table) (count a : ℕ) (kids : ℕ → ℕ) (i : ℕ) → Tabled p T count → Placed p T kids
    → i < length T → opening T (at T i) ≡ none
    → Placed p (opened_at p (at T i) a T) (λ m. cond (m == i) (length T) (kids m)) × Appends p T i a (opened_at p (at T i) a T)
