-- What an opening with m cases makes of a chooser, and when it is refused. Assumes nothing.
use Rattle.std.specs.Prelude.{◌≡◌, ℕ, ◌≤◌, cond, List, [], length, Ok, Err, Result, nat_le}
use Rattle.chooser.specs.Meaning.{Meaning, Same}
use Rattle.chooser.specs.Faults.{fault_number}
use Rattle.chooser.specs.declared.Fault.{Fault}
use Rattle.chooser.specs.declared.Fault.TheVariants.{NoVariable, NoEntries}
use Rattle.finder.specs.Clauses.{some_case, opening_clauses, opening_entries, Extended}

-- the number of the refusal, 0 for none
abbrev pub allot_refusal : Meaning → ℕ → ℕ
allot_refusal M m =
    cond (nat_le m M.room) (cond (nat_le (opening_entries m) M.left) 0 (fault_number NoEntries)) (fault_number NoVariable)

-- the variables are those from the old count on, and entries were left for the clauses at their greatest
abbrev pub Allots : Meaning → Meaning → ℕ → Result ℕ Fault → Type 0
Allots M M' m (Ok first) = (first ≡ M.count) × (opening_entries m ≤ M.left) × Extended M M' m (opening_clauses M.count m)
Allots M M' m (Err e) = Same M M' × (fault_number e ≡ allot_refusal M m)

-- the variables are allotted, and the literals say that they are 1
pub record Named (M M' : Meaning) (m : ℕ) (literals : List ℕ) : Type 0 where
  pub extends : Extended M M' m []
  pub are : literals ≡ some_case M.count m
  pub long : length literals ≡ m
