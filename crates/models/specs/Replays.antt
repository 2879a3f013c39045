-- What is claimed of a written model: a replay reads it, and judges by it what its own decisions judge. Assumes nothing.
use Rattle.std.specs.Prelude.{◌≡◌, ℕ, ◌*◌, ◌<◌, ◌≤◌, Bool, true, List, length, Ok, Result, slice_index}
use Rattle.syntax.specs.Problems.{Problem, Lawful}
use Rattle.finder.specs.Tables.{Table}
use Rattle.finder.specs.Ways.{Way, decided}
use Rattle.finder.specs.Models.{Partials, ModelOf, replayed, JudgesTrue}
use Rattle.model.specs.Reading.{reading}
use Rattle.model.specs.Places.{decided_by}
use Rattle.replay.specs.declared.faults.ReplayFault.{ReplayFault}
use Rattle.replay.specs.Replays.{answer_of, Replayed}
use Rattle.unknowns.specs.Listing.{Stands}
use Rattle.unknowns.specs.declared.table.Table.{Table as Code}
use Rattle.models.specs.Models.{written_model}

-- The bytes are read, and with these steps every goal in force gets the byte 1, for true.
pub record ReplaysTrue (p : Problem) (bytes : List ℕ) (force : ℕ → Bool) (steps : ℕ) : Type 0 where
  pub roots : List ℕ
  pub reads : reading p bytes ≡ Ok roots
  pub answers : (g : ℕ) → g < length p.goals → force g ≡ true → answer_of p (decided_by p bytes roots) steps g ≡ 1

-- So it is with the model of a way, if with these steps every goal in force is judged true by the model.
abbrev pub WrittenReplays : Type 0
WrittenReplays =
    (p : Problem) → Lawful p → (t : Code) (T : Table) (count : ℕ) (w : Way) (qs : Partials) → Stands p t T count → ModelOf p (decided p T w) qs
    → (force : ℕ → Bool) (steps : ℕ) → JudgesTrue p (replayed qs) force steps → ReplaysTrue p (written_model p qs) force steps

abbrev pub OneInForce : Problem → (ℕ → Bool) → List ℕ → Type 0
OneInForce p force answer = (g : ℕ) → g < length p.goals → force g ≡ true → slice_index answer g ≡ 1

-- A call of replay on such bytes succeeds, with these steps and as much memory and room as it asks for, and answers 1 for each
-- goal in force.
abbrev pub ReplayAnswers : Type 0
ReplayAnswers =
    (p : Problem) (bytes : List ℕ) (force : ℕ → Bool) (steps places : ℕ) (before after : List ℕ) (r : Result (Unit {0}) ReplayFault)
    → ReplaysTrue p bytes force steps → 1 ≤ steps → steps ≤ 4096 → 6 * steps ≤ places → length before ≡ length p.goals
    → Replayed p bytes steps places before after r → (r ≡ Ok tt) × OneInForce p force after
