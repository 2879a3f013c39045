-- What reading gives in code. Assumes nothing.
use Rattle.std.specs.Prelude.{◌≡◌, ℕ, List, Ok, Err, Result}
use Rattle.arrayvec.specs.ArrayVec.{ArrayVec}
use Rattle.syntax.specs.declared.faults.Fault.{Fault}
use Rattle.syntax.specs.Problems.{Problem}
use Rattle.model.specs.declared.model.Model.{Model}
use Rattle.model.specs.Reading.{reading}

-- the places that were written, or the fault
abbrev pub Placed : Result (List ℕ) Fault → Result (ArrayVec ℕ) Fault → Type 0
Placed o (Ok roots) = o ≡ Ok roots.items
Placed o (Err e) = o ≡ Err e

-- the model holds what it was read from, and the places of the values
pub record Holds {P : Type 0} (problem : P) (bytes roots : List ℕ) (m : Model P) : Type 0 where
  pub problem_is : m.problem.now ≡ problem
  pub bytes_is : m.bytes.now ≡ bytes
  pub roots_is : m.roots.items ≡ roots

abbrev pub Read : {P : Type 0} → Problem → P → List ℕ → Result (Model P) Fault → Type 0
Read p problem bytes (Ok m) = (roots : List ℕ) × (reading p bytes ≡ Ok roots) × Holds problem bytes roots m
Read p problem bytes (Err e) = reading p bytes ≡ Err e
