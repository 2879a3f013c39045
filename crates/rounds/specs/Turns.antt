-- What a round adds to the rounds after it. Assumes nothing.
use Rattle.std.specs.Prelude.{◌≡◌, ℕ, suc, Bool, List, Option}
use Rattle.chooser.specs.Meaning.{Meaning}
use Rattle.syntax.specs.Problems.{Problem}
use Rattle.problem.specs.Meant.{meant}
use Rattle.finder.specs.Tables.{Table}
use Rattle.finder.specs.Ways.{Way}
use Rattle.finder.specs.Conflicts.{Conflict}
use Rattle.histories.specs.Rounds.{Outcome as Abstract, model, Answer as Told, closes, one_opened, one_recorded, Known, Runs}
use Rattle.unknowns.specs.Listing.{Stands, DecidesAs}
use Rattle.unknowns.specs.declared.table.Table.{Table as Code}
use Rattle.unknowns.specs.declared.table.Case.{Case}
use Rattle.answers.specs.declared.answer.Outcome.{Outcome}
use Rattle.answers.specs.Told.{outcome_of}
use Rattle.unknowns.specs.Force.{forced}
use Rattle.rounds.specs.declared.search.Search.{Search}
use Rattle.rounds.specs.declared.turn.Turn.{Turn}
use Rattle.rounds.specs.declared.turn.Turn.TheVariants.{Closed, Recorded, Opened}

abbrev pub known : Table → List Conflict → Known
known T R = record { table = T; conflicts = R }

-- The search goes on: after a round, from what is known and meant then, and what comes then counts for it with the round added by `add`.
pub record GoesOn (p : Problem) (force : ℕ → Bool) (n steps : ℕ) (X : Known) (M : Meaning) (t' : Code) (M' : Meaning) (add : Told → Told) : Type 0 where
  pub now_known : Known
  pub stands : Stands p t' now_known.table M'.count
  pub more : (k : ℕ) (a : Told) (X'' : Known) (M'' : Meaning) → Runs p force n steps k now_known M' a X'' M''
      → Runs p force n steps (suc k) X M (add a) X'' M''

-- The round closes the search. With a model, `cases` are those of its way.
pub record Closes (p : Problem) (force : ℕ → Bool) (n steps : ℕ) (X : Known) (M : Meaning) (t' : Code) (M' : Meaning) (cases : List (Option Case)) (o : Outcome) : Type 0 where
  pub outcome : Abstract
  pub told : o ≡ outcome_of outcome
  pub stands : Stands p t' X.table M'.count
  pub ends : (k : ℕ) → Runs p force n steps (suc k) X M (closes outcome) X M'
  pub decides : (w : Way) → outcome ≡ model w → DecidesAs p t' X.table w cases

abbrev pub TurnedBy : Problem → (ℕ → Bool) → ℕ → ℕ → Known → Meaning → Code → Meaning → List (Option Case) → Turn → Type 0
TurnedBy p force n steps X M t' M' cases (Closed o) = Closes p force n steps X M t' M' cases o
TurnedBy p force n steps X M t' M' cases Recorded = GoesOn p force n steps X M t' M' one_recorded
TurnedBy p force n steps X M t' M' cases Opened = GoesOn p force n steps X M t' M' one_opened

-- a round of the search s, from a table that stands and any record of conflicts
pub record Turned (s : Search) (M : Meaning) (t t' : Code) (M' : Meaning) (cases : List (Option Case)) (r : Turn) : Type 0 where
  pub goes : (T : Table) (R : List Conflict) → Stands (meant s.problem.now) t T M.count
      → TurnedBy (meant s.problem.now) (forced s.force.now) s.limits.depth s.limits.steps (known T R) M t' M' cases r
