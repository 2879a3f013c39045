-- Tables of ends, computed. Assumes nothing.
use Rattle.std.specs.Prelude.{◌≡◌, ℕ, ◌+◌, List, [], ◌∷◌, refl}
use Rattle.syntax.specs.Typing.{Sig}
use Rattle.ends.specs.Ends.{ends_of, hops}

-- Bool and the naturals
abbrev sig : Sig
sig = record { types = ([] ∷ ([] ∷ [])) ∷ (([] ∷ ((1 ∷ []) ∷ [])) ∷ []); functions = []; unknowns = 1 ∷ [] }

-- unknown 0 equals the successor of zero, after a byte that is no term's
abbrev bytes : List ℕ
bytes = 9 ∷ 7 ∷ 1 ∷ 1 ∷ 0 ∷ 2 ∷ 1 ∷ 1 ∷ 2 ∷ 1 ∷ 0 ∷ []

-- terms stand at 1, 3, 5 and 8
ex_ends : ends_of sig bytes ≡ 1 ∷ 11 ∷ 4 ∷ 5 ∷ 6 ∷ 11 ∷ 8 ∷ 9 ∷ 11 ∷ 11 ∷ 11 ∷ []
ex_ends = refl

-- the right side of the equation, and the argument of the successor
ex_right : hops (ends_of sig bytes) 1 (1 + 2) ≡ 5
ex_right = refl

ex_argument : hops (ends_of sig bytes) 0 (5 + 3) ≡ 8
ex_argument = refl
