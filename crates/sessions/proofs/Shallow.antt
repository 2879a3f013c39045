-- Some type that is deeper, as the library says it. Assumes nothing.
use Rattle.std.proofs.Common.{◌≡◌, ℕ, ◌||◌, nat_lt, List, [], ◌∷◌, refl, ap}
use Rattle.std.specs.List.{list_any}
use Rattle.finder.specs.Levels.{Measures, any_deeper}

pub any_so : (d : Measures) (n : ℕ) (ts : List ℕ) → list_any (λ t. nat_lt n (d.least t)) ts ≡ any_deeper d n ts
any_so d n [] = refl
any_so d n (t ∷ ts) = ap (λ b. nat_lt n (d.least t) || b) (any_so d n ts)
