-- What the records that a reader hands out stand for. Assumes nothing.
use Rattle.std.specs.Prelude.{◌≡◌, ℕ, ◌+◌, ◌≤◌, List, length}
use Rattle.records.specs.Raw.{RawFunction, Few}
use Rattle.records.specs.Next.{lists_in, Lists}
use Rattle.records.specs.declared.kinds.TypeRecord.{TypeRecord}
use Rattle.records.specs.declared.kinds.FunctionRecord.{FunctionRecord}
use Rattle.records.specs.declared.kinds.GoalRecord.{GoalRecord}

abbrev pub cases_held : TypeRecord → List (List ℕ)
cases_held x = lists_in x.count x.constructors.now

abbrev pub function_held : FunctionRecord → RawFunction
function_held x = record { profile = record { params = x.params.now; result = x.result }; body = x.body.now }

-- a type record with its mark at m: its bytes are so many lists, and nothing more
pub record TypeHeld (m : ℕ) (x : TypeRecord) : Type 0 where
  pub marked : x.at ≡ m
  pub some : 1 ≤ x.count
  pub few : x.count ≤ 16
  pub lists : Lists x.count x.constructors.now

-- a function record with its mark at m: its body stands behind the mark, the parameters with their count, the result and the length
pub record FunctionHeld (m : ℕ) (x : FunctionRecord) : Type 0 where
  pub marked : x.at ≡ m
  pub few : Few x.params.now
  pub starts : x.start ≡ m + (6 + length x.params.now)

-- a goal record with its mark at m: its term stands behind the mark and the length
pub record GoalHeld (m : ℕ) (x : GoalRecord) : Type 0 where
  pub marked : x.at ≡ m
  pub starts : x.start ≡ m + 4
