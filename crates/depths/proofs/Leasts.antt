-- The computed least depth is the least depth of values: the search for a value no deeper than a bound is right,
-- and the least depth is the first bound at which it finds one. Assumes nothing.
use Rattle.std.proofs.Common.{◌≡◌, ℕ, ◌≤◌, ⊎_elim, arith}
use mathlib.Core.Option.{some}
use Rattle.std.proofs.lemmas.Bool.{cases_lt}
use Rattle.syntax.specs.Typing.{Sig}
use Rattle.syntax.specs.Values.{Value, OfType, depth, Shallow, IsLeast}
use Rattle.syntax.specs.Least.{shallow, least_of, LeastIsLeast}
use Rattle.depths.proofs.Finding.{not_none, first_depth_some, first_depth_low, first_depth_first, shallow_right, shallow_finds}

pub least_low : (sig : Sig) (t : ℕ) → least_of sig t ≤ 9
least_low sig t = first_depth_low (λ b. shallow sig b b t) 0 9

module _ (sig : Sig) (t : ℕ) where
  -- the value that the search finds at the least depth, if that is at most 8
  pub found : least_of sig t ≤ 8
      → (v : Value) × (shallow sig (least_of sig t) (least_of sig t) t ≡ some v) × OfType sig t v × (depth sig t v ≤ least_of sig t)
  found l =
      let q = first_depth_some (λ b. shallow sig b b t) 0 9 (omega (arith, l)) in
      let r = shallow_right sig (least_of sig t) (least_of sig t) t q.0 q.1 in
      (q.0, q.1, r.0, r.1)

  pub none_less : (v : Value) → OfType sig t v → least_of sig t ≤ depth sig t v
  none_less v q = ⊎_elim
      (λ l. let x = shallow_finds sig (depth sig t v) (depth sig t v) (omega arith) t v q (omega arith) in
      not_none (first_depth_first (λ b. shallow sig b b t) 0 9 (depth sig t v) (omega arith) l) x.1)
      (λ l. l)
      (cases_lt (depth sig t v) (least_of sig t))

  pub low_least : Shallow sig t 8 → least_of sig t ≤ 8
  low_least s =
      let m = none_less s.value s.of in
      let l = s.low in
      omega (arith, m, l)

  is_least : Shallow sig t 8 → IsLeast sig t (least_of sig t)
  is_least s =
      let q = found (low_least s) in
      let m = none_less q.0 q.2 in
      let l = q.3 in
      record { value = q.0; of = q.2; reached = omega (arith, m, l); least = none_less }

  bounded : least_of sig t ≤ 8 → Shallow sig t 8
  bounded l =
      let q = found l in
      let d = q.3 in
      record { value = q.0; of = q.2; low = omega (arith, d, l) }

  pub least_is_least : LeastIsLeast sig t
  least_is_least =
      record {
        low = is_least;
        high = λ no. ⊎_elim (λ l. absurd (no (bounded (omega (arith, l))))) (λ l. let h = least_low sig t in omega (arith, l, h)) (cases_lt (least_of sig t) 9);
        bound = bounded;
      }
