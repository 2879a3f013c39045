-- The weight of a trail of literals. Each place has a digit, 1 for a decision and 2 for a literal that was propagated, and the
-- digits are read in base 3 with the first place the heaviest.
use Rattle.std.specs.Prelude.{◌≡◌, ℕ, ◌+◌, ◌-◌, ◌*◌, ◌^◌, ◌<◌, ◌≤◌, Bool, true, ◌&&◌, List, [], ◌∷◌, ◌++◌, length, nat_lt}

-- the trail has at most v places
abbrev pub weight : ℕ → List ℕ → ℕ
weight v [] = 0
weight v (d ∷ ds) = d * 3 ^ (v - 1) + weight (v - 1) ds

abbrev pub digits : List ℕ → Bool
digits [] = true
digits (d ∷ ds) = nat_lt d 3 && digits ds

-- deciding or propagating adds a digit above 0
abbrev pub Pushes : Type 0
Pushes = (v x : ℕ) (ds : List ℕ) → length ds < v → 0 < x → weight v ds < weight v (ds ++ (x ∷ []))

-- jumping back takes away a decision with all behind it, and propagates a literal in its place
abbrev pub Jumps : Type 0
Jumps = (v : ℕ) (ds es : List ℕ) → length ds + length es < v → digits es ≡ true → weight v (ds ++ (1 ∷ es)) < weight v (ds ++ (2 ∷ []))

abbrev pub Bounded : Type 0
Bounded = (v : ℕ) (ds : List ℕ) → length ds ≤ v → digits ds ≡ true → weight v ds < 3 ^ v
