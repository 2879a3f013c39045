-- The rounds of a search: a relation with a constructor for each way that a round can end. Which way the chooser picks is free;
-- all else follows from it. Assumes nothing.
use Rattle.std.specs.Prelude.{◌≡◌, ℕ, suc, ◌+◌, ◌<◌, ◌≤◌, Bool, true, false, ◌⊎◌, List, [], ◌∷◌, length}
use Rattle.chooser.specs.Meaning.{Meaning, Same}
use Rattle.syntax.specs.Problems.{Problem}
use Rattle.judging.specs.Paths.{Path, under}
use Rattle.finder.specs.Levels.{measures}
use Rattle.finder.specs.Tables.{Table, width, opened_at}
use Rattle.finder.specs.Ways.{Way, decides_all, decided}
use Rattle.finder.specs.Clauses.{opening_clauses, opening_entries, Extended}
use Rattle.finder.specs.Conflicts.{Conflict, conflict, conflict_clause}
use Rattle.finder.specs.Asking.{switches, asked, Picks, Refuses}
use Rattle.finder.specs.Findings.{Finding, out_of_steps, false_goal, waiting_goal, all_true, finding}

pub data Outcome : Type 0 where
  model : Way → Outcome  -- MODEL, by this way
  none_within : Outcome  -- NONE
  never : Outcome
  foreign : Outcome
  spent_rounds : Outcome
  spent_steps : (g : ℕ) → Outcome  -- of the goal g
  spent_unknowns : Outcome
  spent_chooser : Outcome

-- what a search answers: its outcome, rounds made, unknowns opened and conflicts recorded
pub record Answer : Type 0 where
  pub outcome : Outcome
  pub rounds : ℕ
  pub opened : ℕ
  pub recorded : ℕ

abbrev pub no_round : Outcome → Answer
no_round o = record { outcome = o; rounds = 0; opened = 0; recorded = 0 }

-- a round that closes the search
abbrev pub closes : Outcome → Answer
closes o = record { outcome = o; rounds = 1; opened = 0; recorded = 0 }

-- a round that opens an unknown, and one that records a conflict, before the others
abbrev pub one_opened : Answer → Answer
one_opened a = record { outcome = a.outcome; rounds = suc a.rounds; opened = suc a.opened; recorded = a.recorded }

abbrev pub one_recorded : Answer → Answer
one_recorded a = record { outcome = a.outcome; rounds = suc a.rounds; opened = a.opened; recorded = suc a.recorded }

-- what rounds work on, beside the chooser: the table, and the record of conflicts
pub record Known : Type 0 where
  pub table : Table
  pub conflicts : List Conflict

abbrev pub with_opened : Problem → Known → Path → ℕ → Known
with_opened p X u a = record { table = opened_at p u a X.table; conflicts = X.conflicts }

abbrev pub with_conflict : Known → Conflict → Known
with_conflict X k = record { table = X.table; conflicts = k ∷ X.conflicts }

-- the most unknowns that a table holds
abbrev pub most_unknowns : ℕ
most_unknowns = 512

-- the way w that a round goes by: the chooser picked it, and it gives every opened unknown exactly one case
pub record GoesBy (p : Problem) (force : ℕ → Bool) (n : ℕ) (X : Known) (M : Meaning) (w : Way) : Type 0 where
  pub picked : Picks M (asked p (measures p) force n X.table) w
  pub decides : decides_all p w X.table ≡ true

abbrev pub finds : Problem → (ℕ → Bool) → ℕ → Known → Way → Finding Path
finds p force steps X w = finding p (under p (decided p X.table w)) force steps

abbrev pub conflict_in : Problem → Known → Way → ℕ → List Path → Conflict
conflict_in p X w g E = conflict p X.table w g E

-- From what is known and what the chooser means, with so many rounds left, to the answer and to what is known and meant then.
-- (Asking leaves a chooser with the same meaning.)
pub data Runs (p : Problem) (force : ℕ → Bool) (n steps : ℕ) : ℕ → Known → Meaning → Answer → Known → Meaning → Type 0 where
  rounds_spent : {X : Known} {M M' : Meaning} → Same M M' → Runs p force n steps 0 X M (no_round spent_rounds) X M'
  none_found : {k : ℕ} {X : Known} {M M' : Meaning} (w : Way) → Refuses M (asked p (measures p) force n X.table)
      → Picks M (switches p force) w → Same M M' → Runs p force n steps (suc k) X M (closes none_within) X M'
  never_found : {k : ℕ} {X : Known} {M M' : Meaning} → Refuses M (asked p (measures p) force n X.table)
      → Refuses M (switches p force) → Same M M' → Runs p force n steps (suc k) X M (closes never) X M'
  foreign_found : {k : ℕ} {X : Known} {M M' : Meaning} (w : Way) → Picks M (asked p (measures p) force n X.table) w
      → decides_all p w X.table ≡ false → Same M M' → Runs p force n steps (suc k) X M (closes foreign) X M'
  steps_spent : {k : ℕ} {X : Known} {M M' : Meaning} (w : Way) (g : ℕ) → GoesBy p force n X M w
      → finds p force steps X w ≡ out_of_steps g → Same M M' → Runs p force n steps (suc k) X M (closes (spent_steps g)) X M'
  conflict_recorded : {k : ℕ} {X X' : Known} {M M₁ M' : Meaning} {a : Answer} (w : Way) (g : ℕ) (E : List Path) → GoesBy p force n X M w
      → finds p force steps X w ≡ false_goal g E → length (conflict_in p X w g E).choices + 2 ≤ M.left
      → Extended M M₁ 0 (conflict_clause X.table (conflict_in p X w g E) ∷ [])
      → Runs p force n steps k (with_conflict X (conflict_in p X w g E)) M₁ a X' M'
      → Runs p force n steps (suc k) X M (one_recorded a) X' M'
  conflict_too_long : {k : ℕ} {X : Known} {M M' : Meaning} (w : Way) (g : ℕ) (E : List Path) → GoesBy p force n X M w
      → finds p force steps X w ≡ false_goal g E → M.left < length (conflict_in p X w g E).choices + 2 → Same M M'
      → Runs p force n steps (suc k) X M (closes spent_chooser) X M'
  unknown_opened : {k : ℕ} {X X' : Known} {M M₁ M' : Meaning} {a : Answer} (w : Way) (g : ℕ) (u : Path) → GoesBy p force n X M w
      → finds p force steps X w ≡ waiting_goal g u → length (opened_at p u M.count X.table) ≤ most_unknowns
      → width p u ≤ M.room → opening_entries (width p u) ≤ M.left
      → Extended M M₁ (width p u) (opening_clauses M.count (width p u))
      → Runs p force n steps k (with_opened p X u M.count) M₁ a X' M'
      → Runs p force n steps (suc k) X M (one_opened a) X' M'
  unknowns_spent : {k : ℕ} {X : Known} {M M' : Meaning} (w : Way) (g : ℕ) (u : Path) → GoesBy p force n X M w
      → finds p force steps X w ≡ waiting_goal g u → most_unknowns < length (opened_at p u M.count X.table) → Same M M'
      → Runs p force n steps (suc k) X M (closes spent_unknowns) X M'
  chooser_spent : {k : ℕ} {X : Known} {M M' : Meaning} (w : Way) (g : ℕ) (u : Path) → GoesBy p force n X M w
      → finds p force steps X w ≡ waiting_goal g u → length (opened_at p u M.count X.table) ≤ most_unknowns
      → (M.room < width p u) ⊎ (M.left < opening_entries (width p u)) → Same M M'
      → Runs p force n steps (suc k) X M (closes spent_chooser) X M'
  model_found : {k : ℕ} {X : Known} {M M' : Meaning} (w : Way) → GoesBy p force n X M w
      → finds p force steps X w ≡ all_true → Same M M' → Runs p force n steps (suc k) X M (closes (model w)) X M'
