-- What follows from the calls' relations for every chooser.
use Rattle.std.specs.Prelude.{◌≡◌, ℕ, ◌<◌, Bool}
use Rattle.chooser.specs.Meaning.{Meaning, Local}
use Rattle.chooser.specs.Steps.{Grown}
use Rattle.chooser.specs.Faults.{fault_number}
use Rattle.chooser.specs.declared.Fault.{Fault}

-- a way is allowed after a variable is allotted exactly when it was before, whatever value it gives the new variable
abbrev pub EitherValue : Type 0
EitherValue = (s t : Meaning) (v : ℕ) → Local s → Grown s t v
    → (p q : ℕ → Bool) → ((i : ℕ) → i < v → p i ≡ q i) → t.ways q ≡ s.ways p

abbrev pub ToldApart : Type 0
ToldApart = (e f : Fault) → fault_number e ≡ fault_number f → e ≡ f
