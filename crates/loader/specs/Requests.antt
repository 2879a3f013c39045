-- The tests of a request, in their order. Assumes nothing.
use Rattle.std.specs.Prelude.{ℕ, ◌+◌, ◌-◌, ◌≤◌, Bool, cond, ◌&&◌, List, nat_le, Ok, Err, Result}
use Rattle.syntax.specs.declared.faults.Fault.{Fault}
use Rattle.verdict.specs.Verdict.{verdict, checked}
use Rattle.sessions.specs.declared.faults.SessionFault.{SessionFault}
use Rattle.sessions.specs.declared.faults.SessionFault.TheVariants.{BadDepth, BadLimits, SmallBuffers, SmallOutput}
use Rattle.boundary.specs.declared.faults.LoadFault.{LoadFault}
use Rattle.boundary.specs.declared.faults.LoadFault.TheVariants.{BadProblem, NotSearched}
use Rattle.loader.specs.declared.request.Request.{Request}
use Rattle.loader.specs.declared.request.Room.{Room}

abbrev pub are_depths : Request → Bool
are_depths r = nat_le 1 r.first && (nat_le r.first r.last && nat_le r.last 64)

abbrev pub are_limits : Request → Bool
are_limits r = (nat_le 1 r.rounds && nat_le r.rounds 65535) && (nat_le 1 r.steps && nat_le r.steps 4096)

-- how many depths are searched at most
abbrev pub depths : Request → ℕ
depths r = (r.last - r.first) + 1

-- a byte and a literal for each variable of such a chooser, an answer for each depth, and all bytes that a model can have
abbrev pub request_admitted : Request → ℕ → Room → Result (Unit {0}) SessionFault
request_admitted r most room =
    cond (are_depths r)
    (cond (are_limits r)
    (cond (nat_le most room.way && nat_le most room.literals)
    (cond (nat_le (depths r) room.answers && nat_le 1584 room.model) (Ok tt) (Err SmallOutput)) (Err SmallBuffers)) (Err BadLimits)) (Err BadDepth)

abbrev pub as_searched : Result (Unit {0}) SessionFault → Result (Unit {0}) LoadFault
as_searched (Ok u) = Ok u
as_searched (Err f) = Err (NotSearched f)

abbrev pub then_admitted : Result (Unit {0}) Fault → Result (Unit {0}) SessionFault → Result (Unit {0}) LoadFault
then_admitted (Ok u) r = as_searched r
then_admitted (Err f) r = Err (BadProblem f)

-- first the bytes, then the request
abbrev pub admitted : List ℕ → Request → ℕ → Room → Result (Unit {0}) LoadFault
admitted bs r most room = then_admitted (checked (verdict bs)) (request_admitted r most room)

-- what the tests of all but the room for a model leave
pub record Admits (r : Request) (answers : ℕ) : Type 0 where
  pub first : 1 ≤ r.first
  pub ordered : r.first ≤ r.last
  pub last : r.last ≤ 64
  pub rounds : (1 ≤ r.rounds) × (r.rounds ≤ 65535)
  pub steps : (1 ≤ r.steps) × (r.steps ≤ 4096)
  pub answers_fit : depths r ≤ answers

-- what all of them leave
pub record Passed (r : Request) (most : ℕ) (room : Room) : Type 0 where
  pub admits : Admits r room.answers
  pub way : most ≤ room.way
  pub literals : most ≤ room.literals
  pub model : 1584 ≤ room.model
