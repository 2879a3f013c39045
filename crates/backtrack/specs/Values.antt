-- Values of which some are open: 0, 1, or 2 for an open variable.
use Rattle.std.specs.Prelude.{◌≡◌, ℕ, ◌-◌, ◌*◌, ◌/◌, ◌%◌, ◌<◌, Bool, false, List, length, ◌==◌, ◌≢◌, Some, None, Option, slice_index}
use Rattle.std.specs.List.{count_by}
use Rattle.chooser.specs.Ways.{lit, written}

-- how many variables are open
abbrev pub opens : List ℕ → ℕ
opens values = count_by (λ x. x == 2) values

-- the way gives each variable that is not open its value
abbrev pub Agrees : (ℕ → Bool) → List ℕ → Type 0
Agrees p values = (k : ℕ) → k < length values → (slice_index values k ≢ 2) → p k ≡ written values k

-- the literal's variable is open
abbrev pub Opened : List ℕ → ℕ → Type 0
Opened values l = (l < 2 * length values) × (slice_index values (l / 2) ≡ 2)

-- the values make the literal false
abbrev pub Off : List ℕ → ℕ → Type 0
Off values l = (p : ℕ → Bool) → Agrees p values → lit p l ≡ false

-- the value that makes a literal true
abbrev pub bit : ℕ → ℕ
bit l = 1 - l % 2

-- whether the values make the literal true; nothing is said while its variable is open
abbrev pub Truth : List ℕ → ℕ → Option Bool → Type 0
Truth values l None = slice_index values (l / 2) ≡ 2
Truth values l (Some b) = (slice_index values (l / 2) ≢ 2) × (lit (written values) l ≡ b)
