-- The first type without a value no deeper than 8, found by the computed least depths, in the sense of values.
use Rattle.std.proofs.Common.{◌≡◌, ℕ, zero, suc, ◌+◌, ◌<◌, ◌≤◌, cond, leb, List, [], ◌∷◌, length, get_or, Some, None, sym, refl, ap, ◌∙◌, subst, add-zero, arith, le-leb, leb-true}
use borrow.Author.Tests.{lt-leb}
use Rattle.syntax.specs.Typing.{Sig}
use Rattle.syntax.specs.Values.{Shallow}
use Rattle.syntax.specs.Least.{least_of}
use Rattle.syntax.specs.Problems.{encode_type}
use Rattle.tables.specs.Tabled.{places_of, mark_at}
use Rattle.declarations.proofs.Declared.{test_none}
use Rattle.depths.proofs.Leasts.{least_is_least}
use Rattle.verdict.specs.Verdict.{deep_from}

-- a type has a shallow value exactly if its computed least depth is at most 8
pub shallow_low : (sig : Sig) (t : ℕ) → Shallow sig t 8 → least_of sig t ≤ 8
shallow_low sig t s =
    let below = ((least_is_least sig t).low s).least s.value s.of in
    let low = s.low in
    omega arith

pub low_shallow : (sig : Sig) (t : ℕ) → least_of sig t ≤ 8 → Shallow sig t 8
low_shallow sig t h = (least_is_least sig t).bound h

-- none is named: each of the types is low
pub none_deep : (sig : Sig) (t : ℕ) (ts : List (List (List ℕ))) (p : ℕ) → deep_from sig t ts p ≡ None → (k : ℕ) → k < length ts → least_of sig (t + k) ≤ 8
none_deep sig t [] p e k h = absurd (omega arith)
none_deep sig t (c ∷ ts) p e zero h =
    let x = test_none (leb (least_of sig t) 8) (deep_from sig (t + 1) ts (p + length (encode_type c))) p e in
    subst (λ u. least_of sig u ≤ 8) (sym (add-zero t)) (leb-true (least_of sig t) 8 x.0)
none_deep sig t (c ∷ ts) p e (suc k) h =
    let x = test_none (leb (least_of sig t) 8) (deep_from sig (t + 1) ts (p + length (encode_type c))) p e in
    let less : k < length ts = omega arith in
    let q : (t + 1) + k ≡ t + suc k = omega arith in
    subst (λ u. least_of sig u ≤ 8) q (none_deep sig (t + 1) ts (p + length (encode_type c)) x.1 k less)

passed : (sig : Sig) (t : ℕ) (c : List (List ℕ)) (ts : List (List (List ℕ))) (p : ℕ) → least_of sig t ≤ 8
    → deep_from sig t (c ∷ ts) p ≡ deep_from sig (t + 1) ts (p + length (encode_type c))
passed sig t c ts p h = ap (λ b. cond b (deep_from sig (t + 1) ts (p + length (encode_type c))) (Some p)) (le-leb (least_of sig t) 8 h)

pub deep_none : (sig : Sig) (t : ℕ) (ts : List (List (List ℕ))) (p : ℕ) → ((k : ℕ) → k < length ts → least_of sig (t + k) ≤ 8) → deep_from sig t ts p ≡ None
deep_none sig t [] p h = refl
deep_none sig t (c ∷ ts) p h =
    let first : least_of sig t ≤ 8 = subst (λ u. least_of sig u ≤ 8) (add-zero t) (h 0 (omega arith)) in
    passed sig t c ts p first
    ∙ deep_none sig (t + 1) ts (p + length (encode_type c))
    (λ k l. let q : t + suc k ≡ (t + 1) + k = omega arith in subst (λ u. least_of sig u ≤ 8) q (h (suc k) (omega arith)))

-- the first that is not low is named, by the place of its record
pub deep_first : (sig : Sig) (t : ℕ) (ts : List (List (List ℕ))) (p k : ℕ) → k < length ts → (least_of sig (t + k) ≤ 8 → ⊥)
    → ((j : ℕ) → j < k → least_of sig (t + j) ≤ 8) → deep_from sig t ts p ≡ Some (get_or (places_of mark_at encode_type p ts) k 0)
deep_first sig t [] p k h n f = absurd (omega arith)
deep_first sig t (c ∷ ts) p zero h n f =
    let high : 8 < least_of sig t = go (n) in
    ap (λ b. cond b (deep_from sig (t + 1) ts (p + length (encode_type c))) (Some p)) (lt-leb (least_of sig t) 8 high)
  where
    go : (least_of sig (t + 0) ≤ 8 → ⊥) → 8 < least_of sig t
    go m = let e : least_of sig (t + 0) ≡ least_of sig t = ap (least_of sig) (add-zero t) in above (least_of sig t) (λ l. m (subst (λ u. u ≤ 8) (sym e) l))
      where
        above : (x : ℕ) → (x ≤ 8 → ⊥) → 8 < x
        above x m = omega (arith, m)
deep_first sig t (c ∷ ts) p (suc k) h n f =
    let first : least_of sig t ≤ 8 = subst (λ u. least_of sig u ≤ 8) (add-zero t) (f 0 (omega arith)) in
    let q : (t + 1) + k ≡ t + suc k = omega arith in
    passed sig t c ts p first
    ∙ deep_first sig (t + 1) ts (p + length (encode_type c)) k (omega arith) (λ l. n (subst (λ u. least_of sig u ≤ 8) q l))
    (λ j l. let r : t + suc j ≡ (t + 1) + j = omega arith in subst (λ u. least_of sig u ≤ 8) r (f (suc j) (omega arith)))
