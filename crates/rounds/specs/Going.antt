-- What is known between two rounds of a search. Assumes nothing.
use Rattle.std.specs.Prelude.{◌≡◌, ℕ, ◌+◌, Bool, List}
use Rattle.chooser.specs.Meaning.{Meaning}
use Rattle.syntax.specs.Problems.{Problem}
use Rattle.problem.specs.Meant.{meant}
use Rattle.finder.specs.Tables.{Table}
use Rattle.finder.specs.Conflicts.{Conflict}
use Rattle.histories.specs.Rounds.{Answer as Told, Known, Runs}
use Rattle.unknowns.specs.Listing.{Stands}
use Rattle.unknowns.specs.declared.table.Table.{Table as Code}
use Rattle.unknowns.specs.Force.{forced}
use Rattle.rounds.specs.declared.search.Search.{Search}
use Rattle.rounds.specs.Turns.{known}

-- what an answer comes to with so many rounds before it, of which so many opened an unknown, and so many recorded a conflict
abbrev pub added : ℕ → ℕ → ℕ → Told → Told
added rounds opened recorded a =
    record {
      outcome = a.outcome;
      rounds = rounds + a.rounds;
      opened = opened + a.opened;
      recorded = recorded + a.recorded;
    }

-- so many rounds were gone through from X and M, and what comes then counts for the whole with them added
pub record Gone (p : Problem) (force : ℕ → Bool) (n steps rounds opened recorded : ℕ) (X : Known) (M : Meaning) (t' : Code) (M' : Meaning) : Type 0 where
  pub now_known : Known
  pub stands : Stands p t' now_known.table M'.count
  pub more : (k : ℕ) (a : Told) (X'' : Known) (M'' : Meaning) → Runs p force n steps k now_known M' a X'' M''
      → Runs p force n steps (rounds + k) X M (added rounds opened recorded a) X'' M''

-- so far the search s went, from a table that stands and any record of conflicts; each of its rounds opened or recorded
pub record Going (s : Search) (rounds opened recorded : ℕ) (M : Meaning) (t t' : Code) (M' : Meaning) : Type 0 where
  pub counts : opened + recorded ≡ rounds
  pub gone : (T : Table) (R : List Conflict) → Stands (meant s.problem.now) t T M.count
      → Gone (meant s.problem.now) (forced s.force.now) s.limits.depth s.limits.steps rounds opened recorded (known T R) M t' M'
