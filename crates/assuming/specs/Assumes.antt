-- What a round's question assumes, as the code writes it. Assumes nothing.
use Rattle.std.specs.Prelude.{◌≡◌, ℕ, ◌≤◌, Bool, true, List, length, take}
use Rattle.chooser.specs.Ways.{allotted}
use Rattle.syntax.specs.Problems.{Problem}
use Rattle.finder.specs.Levels.{measures}
use Rattle.finder.specs.Tables.{Table}
use Rattle.finder.specs.Asking.{switches, asked}
use Rattle.unknowns.specs.Force.{forced}
use Rattle.unknowns.specs.Listing.{Stands}
use Rattle.unknowns.specs.declared.table.Table.{Table as Code}
use Rattle.assuming.specs.declared.Assumed.{Assumed}

-- The numbers in `after` begin with the switches, and with all that is asked; and these are literals of variables below `count`.
pub record AssumesSo (p : Problem) (T : Table) (count : ℕ) (force : List Bool) (n : ℕ) (after : List ℕ) (r : Assumed) : Type 0 where
  pub switched : take r.switches after ≡ switches p (forced force)
  pub assumed : take r.all after ≡ asked p (measures p) (forced force) n T
  pub switches_allotted : allotted count (switches p (forced force)) ≡ true
  pub all_allotted : allotted count (asked p (measures p) (forced force) n T) ≡ true

-- So it is for whatever table the code's table stands for, if a number of 16 bits can be a literal of each of its variables, and
-- the memory has a number for each.
pub record Assumes (p : Problem) (t : Code) (force : List Bool) (n : ℕ) (before after : List ℕ) (r : Assumed) : Type 0 where
  pub says : (T : Table) (count : ℕ) → Stands p t T count → count ≤ 32768 → count ≤ length before → AssumesSo p T count force n after r
