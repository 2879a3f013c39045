-- The abstract state that a session shows. Assumes nothing.
use Rattle.std.specs.Prelude.{◌≡◌, ℕ, false, length, slice_index_or, Some, None, Option}
use Rattle.std.proofs.Math.Option.{some}
use Rattle.unknowns.specs.Listing.{Stands, DecidesAs}
use Rattle.histories.specs.States.{AtHand, Session as Abstract, State, not_begun, begun}
use Rattle.histories.specs.Histories.{some?}
use Rattle.sessions.specs.declared.session.Begun.{Begun}
use Rattle.sessions.specs.declared.session.Session.{Session}

-- A session that has begun shows s. It keeps neither the problem, which its calls are passed, nor the record of conflicts.
pub record ShowsBegun (b : Begun) (s : Abstract) : Type 0 where
  pub goals : b.goals ≡ length s.problem.goals
  pub force : (g : ℕ) → slice_index_or b.force g false ≡ s.force g
  pub stands : Stands s.problem b.table s.table s.count
  pub count : b.count ≡ s.count
  pub left : b.left ≡ s.left
  pub model : b.model ≡ some? s.model
  pub decides : (m : AtHand) → s.model ≡ some m → DecidesAs s.problem b.table s.table m.way b.cases

abbrev pub ShowsIn : Option Begun → State → Type 0
ShowsIn None not_begun = Unit {0}
ShowsIn None (begun s) = ⊥
ShowsIn (Some b) not_begun = ⊥
ShowsIn (Some b) (begun s) = ShowsBegun b s

abbrev pub Shows : Session → State → Type 0
Shows s S = ShowsIn s.begun S
