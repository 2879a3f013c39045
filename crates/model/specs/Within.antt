-- Where a reading ends, if it does: no earlier than it began, and within the bytes. Assumes nothing.
use Rattle.std.specs.Prelude.{ℕ, ◌+◌, ◌≤◌, Some, None, Ok, Err, Option, Result}
use Rattle.syntax.specs.declared.faults.Fault.{Fault}

abbrev pub Within : ℕ → ℕ → Result ℕ Fault → Type 0
Within p n (Ok q) = (p ≤ q) × (q ≤ n)
Within p n (Err e) = Unit {0}

-- what was looked at for it is there
abbrev pub Topped : ℕ → ℕ → Result (Option ℕ) Fault → Type 0
Topped p n (Ok None) = p + 1 ≤ n
Topped p n (Ok (Some c)) = p + 3 ≤ n
Topped p n (Err e) = Unit {0}
