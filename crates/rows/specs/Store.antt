-- What a store of clauses means, and what its calls come to.
use Rattle.std.specs.Prelude.{◌≡◌, ℕ, ◌+◌, true, List, length, Ok, Err, vec_items, Result}
use Rattle.chooser.specs.Ways.{allotted}
use Rattle.chooser.specs.Meaning.{Meaning}
use Rattle.chooser.specs.Steps.{ask_refusal}
use Rattle.chooser.specs.Faults.{fault_number}
use Rattle.chooser.specs.declared.Fault.{Fault}
use Rattle.rows.specs.Meant.{meant}
use Rattle.rows.specs.declared.store.ClauseStore.{ClauseStore}

abbrev pub store_means : ClauseStore → Meaning
store_means s = meant (vec_items s.row) s.entries 4096 s.count

-- a clause that was taken spends an entry for each literal and one more
abbrev pub Spent : {U : Type 0} → Meaning → Meaning → List ℕ → Result U Fault → Type 0
Spent s t clause (Ok u) = t.left + (length clause + 1) ≡ s.left
Spent s t clause (Err e) = t.left ≡ s.left

-- whether a question may be asked
abbrev pub Askable : {U : Type 0} → Meaning → List ℕ → List ℕ → Result U Fault → Type 0
Askable s assumptions answer (Ok u) = (allotted s.count assumptions ≡ true) × (length answer ≡ s.count)
Askable s assumptions answer (Err e) = fault_number e ≡ ask_refusal s assumptions answer
