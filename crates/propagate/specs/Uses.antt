-- What is kept of clauses: when each was last of use, and whether it is worth its room.
use Rattle.std.specs.Prelude.{◌≡◌, ℕ, ◌+◌, ◌-◌, ◌/◌, ◌%◌, ◌^◌, ◌<◌, Bool, true, false, ◌||◌, List, length, nat_le, nat_lt, slice_index_or}
use Rattle.trail.specs.Trails.{step_at, literal_at}
use Rattle.trail.specs.declared.step.Reason.TheVariants.{Clause}
use Rattle.trail.specs.declared.step.Step.{Step}
use Rattle.propagate.specs.declared.watches.TheConstants.{UNWATCHED}
use Rattle.propagate.specs.declared.watches.Watched.{Watched}
use Rattle.propagate.specs.declared.watches.Watches.{Watches}

-- what is kept of the clause c
abbrev pub entry : Watches → ℕ → Watched
entry w c = slice_index_or w.clauses.items c UNWATCHED

-- what is kept of a clause, with another time of use
abbrev pub timed : Watched → ℕ → Watched
timed e now = record { next = e.next; literals = e.literals; from = e.from; glue = e.glue; used = now }

-- how long ago the time was, on a clock that begins again at 2 ^ 32
abbrev pub age : ℕ → ℕ → ℕ
age now then = (now + (2 ^ 32 - then)) % 2 ^ 32

-- a clause is worth keeping that was added, joins few levels, or was of use within the window
abbrev pub worth : Watched → ℕ → ℕ → Bool
worth e now window = nat_le e.glue 3 || nat_lt (age now e.used) window

-- a seen variable among the first n of the trail follows by the clause c
abbrev pub Served : List Step → List Bool → ℕ → ℕ → Type 0
Served steps seen n c = (j : ℕ) × (j < n) × ((step_at steps j).reason ≡ Clause c) × (slice_index_or seen (literal_at steps j / 2) false ≡ true)

-- what is kept of a clause stays, but for when it was last of use
pub record Alike (e f : Watched) : Type 0 where
  pub next : f.next ≡ e.next
  pub literals : f.literals ≡ e.literals
  pub from : f.from ≡ e.from
  pub glue : f.glue ≡ e.glue

-- the clauses that served have the time now, and nothing else changed
pub record Noted (w w' : Watches) (steps : List Step) (seen : List Bool) (n now : ℕ) : Type 0 where
  pub lists : w'.first ≡ w.first
  pub long : length w'.clauses.items ≡ length w.clauses.items
  pub alike : (c : ℕ) → Alike (entry w c) (entry w' c)
  pub served : (c : ℕ) → c < length w.clauses.items → Served steps seen n c → (entry w' c).used ≡ now
  pub others : (c : ℕ) → (Served steps seen n c → ⊥) → (entry w' c).used ≡ (entry w c).used
