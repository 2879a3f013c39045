-- A search to depth n overlooks no assignment no deeper than n, after whatever was called on the session before.
-- Assumes nothing.
use Rattle.std.specs.Prelude.{◌≡◌, ℕ, ◌+◌, Bool, true, false, cond, List, [], ◌∷◌, ◌++◌, length, ◌==◌}
use Rattle.std.proofs.Math.Option.{some}
use Rattle.chooser.specs.Meaning.{Meaning}
use Rattle.syntax.specs.Values.{Values}
use Rattle.syntax.specs.Problems.{Problem}
use Rattle.judging.specs.Asked.{◌∈◌}
use Rattle.judging.specs.Assignments.{Assigns, ComesTrue}
use Rattle.finder.specs.Levels.{Within}
use Rattle.finder.specs.Tables.{Table}
use Rattle.finder.specs.Ways.{Way, decided}
use Rattle.finder.specs.Conflicts.{Conflict, Forbids, FullSet, Full, ForbidsSet, Allows}
use Rattle.finder.specs.Models.{Solves}
use Rattle.finder.specs.Claims.{ModelRight}
use Rattle.histories.specs.States.{AtHand, Session, State, not_begun, begun}
use Rattle.histories.specs.Rounds.{Outcome, model, none_within, never, foreign, spent_rounds, spent_steps, spent_unknowns, spent_chooser, Answer}
use Rattle.histories.specs.Calls.{Reply, refused, answered, Searches}
use Rattle.histories.specs.Histories.{Event, History, is_model}

-- a search finishes with MODEL, NONE or NEVER; a count stops it
abbrev pub finishes : Outcome → Bool
finishes (model w) = true
finishes none_within = true
finishes never = true
finishes foreign = false
finishes spent_rounds = false
finishes (spent_steps g) = false
finishes spent_unknowns = false
finishes spent_chooser = false

abbrev pub stopped : Outcome → Bool
stopped (model w) = false
stopped none_within = false
stopped never = false
stopped foreign = false
stopped spent_rounds = true
stopped (spent_steps g) = true
stopped spent_unknowns = true
stopped spent_chooser = true

-- the round that closes a search: none for SPENT ROUNDS, or where no round was made
abbrev pub closing_of : Outcome → ℕ
closing_of (model w) = 1
closing_of none_within = 1
closing_of never = 1
closing_of foreign = 1
closing_of spent_rounds = 0
closing_of (spent_steps g) = 1
closing_of spent_unknowns = 1
closing_of spent_chooser = 1

abbrev pub closing : Answer → ℕ
closing a = cond (a.rounds == 0) 0 (closing_of a.outcome)

-- under some assignment no deeper than n every goal in force comes to true
abbrev pub Solvable : Problem → (ℕ → Bool) → ℕ → Type 0
Solvable p force n = (α : Values) × Assigns p α × Within p n α × Solves p force α

-- each of these conflicts, the newest first, forbids a full set of choices that the record before it still allowed
abbrev pub Fresh : Problem → Table → (ℕ → Bool) → List Conflict → List Conflict → Type 0
Fresh p T force [] before = Unit {0}
Fresh p T force (k ∷ ks) before =
    ((F : FullSet) × Full p T F × Allows (ks ++ before) force F × ForbidsSet k F) × Fresh p T force ks before

-- what is claimed of an accepted search, from the session s to s'
pub record Right (n steps : ℕ) (s : Session) (a : Answer) (s' : Session) : Type 0 where
  -- one that no count stops finishes
  pub finished : stopped a.outcome ≡ false → finishes a.outcome ≡ true
  -- one that finishes answers MODEL exactly when there is such an assignment no deeper than n
  pub exactly : finishes a.outcome ≡ true
      → (is_model a.outcome ≡ true → Solvable s.problem s.force n) × (Solvable s.problem s.force n → is_model a.outcome ≡ true)
  -- its model is such an assignment, however its open parts are filled within n
  pub modelled : (w : Way) → a.outcome ≡ model w
      → ModelRight s.problem (decided s.problem s'.table w) n s.force steps
  -- with NEVER there is none at any depth
  pub never_any : a.outcome ≡ never → (n' : ℕ) → Solvable s.problem s.force n' → ⊥
  -- every conflict on record forbids only assignments under which its own goal does not come to true
  pub on_record : (k : Conflict) → k ∈ s'.conflicts → (α : Values) → Assigns s.problem α → Forbids k α
      → ComesTrue s.problem α k.of → ⊥
  -- the counts
  pub counts : a.rounds ≡ a.opened + a.recorded + closing a
  pub recorded : List Conflict
  pub record_grows : s'.conflicts ≡ recorded ++ s.conflicts
  pub record_counts : length recorded ≡ a.recorded
  pub fresh : Fresh s.problem s'.table s.force recorded s.conflicts

abbrev pub Claims : (n steps : ℕ) → State → Reply → State → Type 0
Claims n steps S (refused r) S' = S' ≡ S
Claims n steps not_begun (answered a) S' = ⊥
Claims n steps (begun s) (answered a) not_begun = ⊥
Claims n steps (begun s) (answered a) (begun s') = Right n steps s a s'

-- the theorem
abbrev pub NothingOverlooked : Type 0
NothingOverlooked =
    (es : List Event) (S S' : State) (M M' : Meaning) (n rounds steps : ℕ) (buffers : Bool) (r : Reply)
    → History es S M → Searches n rounds steps buffers S M r S' M' → Claims n steps S r S'

-- A model at hand is right as long as it is at hand, and judged with the steps of its search it makes each goal in force true.
abbrev pub ModelAtHand : Type 0
ModelAtHand =
    (es : List Event) (s : Session) (m : AtHand) (M : Meaning) → History es (begun s) M → s.model ≡ some m
    → ModelRight s.problem (decided s.problem s.table m.way) m.depth s.force m.steps
