-- The places of children, one more at a time.
use Rattle.std.proofs.Common.{◌≡◌, ℕ, zero, suc, ◌+◌, ◌-◌, ◌≤◌, List, [], ◌∷◌, ◌++◌, ap, ◌∙◌, arith}
use Rattle.places.specs.Places.{from}

from_more : (i m : ℕ) → from i m ++ ((i + m) ∷ []) ≡ from i (suc m)
from_more i zero = ap (λ x. x ∷ []) (omega arith)
from_more i (suc m) =
    let shift : i + suc m ≡ suc i + m = omega arith in
    ap (◌∷◌ i) (ap (λ x. from (suc i) m ++ (x ∷ [])) shift ∙ from_more (suc i) m)

pub next_child : (k c : ℕ) (items now : List ℕ) → k ≤ c → items ≡ from k (c - k) → now ≡ items ++ (c ∷ []) → now ≡ from k (c + 1 - k)
next_child k c items now l are more =
    let long : suc (c - k) ≡ c + 1 - k = omega (arith, l) in
    let at_ : c ≡ k + (c - k) = omega (arith, l) in
    more ∙ ap (λ xs. xs ++ (c ∷ [])) are ∙ ap (λ x. from k (c - k) ++ (x ∷ [])) at_ ∙ from_more k (c - k)
    ∙ ap (from k) long
