-- The session with the first goals in force. Assumes nothing.
use Rattle.std.specs.Prelude.{ℕ, Bool, List, length, nat_lt}
use Rattle.chooser.specs.Meaning.{Meaning}
use Rattle.syntax.specs.Problems.{Problem}
use Rattle.histories.specs.States.{Session as Abstract, begun, start}
use Rattle.histories.specs.Calls.{with_force}
use Rattle.histories.specs.Histories.{Event, History}
use Rattle.sessions.specs.declared.session.Session.{Session}
use Rattle.sessions.specs.Shown.{Shows}

abbrev pub below : ℕ → ℕ → Bool
below g h = nat_lt h g

-- each goal of the problem
abbrev pub all_goals : Problem → ℕ → Bool
all_goals p = below (length p.goals)

-- begun with a chooser that meant M then, with the goals below g in force, and never searched
abbrev pub forced : Problem → Meaning → ℕ → Abstract
forced p M g = with_force (start p M) (below g)

-- The session shows it, and came to it by calls on it.
pub record Put (p : Problem) (M : Meaning) (g : ℕ) (s : Session) : Type 0 where
  pub shows : Shows s (begun (forced p M g))
  pub calls : List Event
  pub history : History calls (begun (forced p M g)) M
