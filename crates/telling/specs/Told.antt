-- A text is told: it stands at the start of the output, or the output is too short for it and stays as it was. Assumes nothing.
use Rattle.std.specs.Prelude.{◌≡◌, ℕ, ◌<◌, List, ◌++◌, length, drop, Ok, Err, Result}
use Rattle.telling.specs.declared.faults.TellFault.{TellFault}
use Rattle.telling.specs.declared.faults.TellFault.TheVariants.{SmallOutput}

abbrev pub Told : List ℕ → List ℕ → List ℕ → Result ℕ TellFault → Type 0
Told text before after (Ok n) = (n ≡ length text) × (after ≡ text ++ drop n before)
Told text before after (Err e) = (e ≡ SmallOutput) × (length before < length text) × (after ≡ before)
