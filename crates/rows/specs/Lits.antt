-- The other literal of a variable.
use Rattle.std.specs.Prelude.{◌≡◌, ℕ, ◌+◌, ◌-◌, ◌/◌, ◌%◌, cond, ◌==◌, ◌≢◌}

abbrev pub opposite : ℕ → ℕ
opposite l = cond (l % 2 == 0) (l + 1) (l - 1)

-- r is the other literal of the variable of l
abbrev pub Turned : ℕ → ℕ → Type 0
Turned l r = (r / 2 ≡ l / 2) × (r ≢ l)
