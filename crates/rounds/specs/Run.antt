-- What a whole search comes to: rounds as the relation has them. Assumes nothing.
use Rattle.std.specs.Prelude.{◌≡◌, ℕ, Bool, List, Option}
use Rattle.chooser.specs.Meaning.{Meaning}
use Rattle.syntax.specs.Problems.{Problem}
use Rattle.problem.specs.Meant.{meant}
use Rattle.finder.specs.Tables.{Table}
use Rattle.finder.specs.Ways.{Way}
use Rattle.finder.specs.Conflicts.{Conflict}
use Rattle.histories.specs.Rounds.{model, Answer as Told, Known, Runs}
use Rattle.unknowns.specs.Listing.{Stands, DecidesAs}
use Rattle.unknowns.specs.declared.table.Table.{Table as Code}
use Rattle.unknowns.specs.declared.table.Case.{Case}
use Rattle.answers.specs.declared.answer.Answer.{Answer}
use Rattle.answers.specs.Told.{answer_of}
use Rattle.unknowns.specs.Force.{forced}
use Rattle.rounds.specs.declared.search.Search.{Search}
use Rattle.rounds.specs.Turns.{known}

-- From X and M the rounds come to what the code answers, and to a table for which its own stands then. With a model, `cases` are
-- those of its way.
pub record RanTo (p : Problem) (force : ℕ → Bool) (n rounds steps : ℕ) (X : Known) (M : Meaning) (t' : Code) (M' : Meaning) (cases : List (Option Case)) (r : Answer) : Type 0 where
  pub known_then : Known
  pub answer : Told
  pub told : r ≡ answer_of answer
  pub runs : Runs p force n steps rounds X M answer known_then M'
  pub stands : Stands p t' known_then.table M'.count
  pub decides : (w : Way) → answer.outcome ≡ model w → DecidesAs p t' known_then.table w cases

-- the whole search s, from a table that stands and any record of conflicts
pub record Ran (s : Search) (M : Meaning) (t t' : Code) (M' : Meaning) (cases : List (Option Case)) (r : Answer) : Type 0 where
  pub from : (T : Table) (R : List Conflict) → Stands (meant s.problem.now) t T M.count
      → RanTo (meant s.problem.now) (forced s.force.now) s.limits.depth s.limits.rounds s.limits.steps (known T R) M t' M' cases r
