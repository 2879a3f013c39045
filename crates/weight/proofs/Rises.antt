-- The weight rises and is bounded, since a digit is worth more than all the digits behind it together.
use Rattle.std.proofs.Common.{◌≡◌, ℕ, suc, ◌-◌, ◌*◌, ◌^◌, ◌<◌, ◌≤◌, ltb, [], ◌∷◌, ap, ◌∙◌, mul-le-mul_right, one-mul, arith}
use native.Mathlib.Nat.{pow-succ', pow-le-pow_right}
use Rattle.std.proofs.lemmas.Bool.{and_parts, ltb-true}
use Rattle.weight.specs.Weight.{digits, Pushes, Jumps, Bounded}

power_positive : (k : ℕ) → 0 < 3 ^ k
power_positive k = pow-le-pow_right {n = 3} (omega arith) {i = 0} {j = k} (omega arith)

power_step : (v : ℕ) → 0 < v → 3 ^ v ≡ 3 * 3 ^ (v - 1)
power_step v h = let e : v ≡ suc (v - 1) = omega arith in ap (λ k. 3 ^ k) e ∙ pow-succ' 3 (v - 1)

pub bounded : Bounded
bounded v [] h e = power_positive v
bounded v (d ∷ ds) h e =
    let p = and_parts (ltb d 3) (digits ds) e in
    let small : d ≤ 2 = omega (arith, ltb-true d 3 p.0) in
    let rest = bounded (v - 1) ds (omega arith) p.1 in
    let most = mul-le-mul_right {m = d} {n = 2} (3 ^ (v - 1)) small in
    omega (arith, power_step v (omega arith))

pub pushes : Pushes
pushes v x [] h p =
    let q = mul-le-mul_right {m = 1} {n = x} (3 ^ (v - 1)) p in
    omega (arith, power_positive (v - 1), one-mul (3 ^ (v - 1)))
pushes v x (d ∷ ds) h p = let rest = pushes (v - 1) x ds (omega arith) p in omega arith

pub jumps : Jumps
jumps v [] es h e =
    let rest = bounded (v - 1) es (omega arith) e in
    omega arith
jumps v (d ∷ ds) es h e = let rest = jumps (v - 1) ds es (omega arith) e in omega arith
