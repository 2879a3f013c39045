-- The table of ends, filled from the right: each entry lies past its place, so it rests on later entries alone. Assumes nothing.
use Rattle.std.proofs.Common.{◌≡◌, ℕ, zero, suc, ◌+◌, ◌-◌, ◌<◌, ◌≤◌, cond, min, ltb, List, length, get_or, set, sym, refl, ap, ◌∙◌, subst, ⊎_elim, arith}
use Rattle.std.proofs.lemmas.List.{length-set, length-replicate, get_or-set_same, get_or-set_other, get_or_past, ext_get_or}
use Rattle.std.proofs.lemmas.Bool.{cases_eq, cond_both, ltb-true, ltb-false}
use Rattle.reading.specs.declared.parts.Tag.{Tag}
use Rattle.reading.specs.declared.parts.Tag.TheVariants.{Variable, Unknown, Constructor, Call, Case, And, Not, Equal, Other}
use Rattle.reading.specs.Reading.{tag_of}
use Rattle.syntax.specs.Typing.{Sig}
use Rattle.ends.specs.Ends.{Ends, head_of, parts_of, hop, hops, end_at, at_most, filled, ends_of}
use Rattle.ends.proofs.Ending.{none_past, one_more}

-- from the place k on, two tables agree, and entries lie past their places
pub record Agree (next next' : List ℕ) (k : ℕ) : Type 0 where
  pub long : length next ≡ length next'
  pub same : (q : ℕ) → k ≤ q → get_or next q 0 ≡ get_or next' q 0
  pub rises : (q : ℕ) → k ≤ q → q < length next → q < get_or next q 0

hop_rises : (next next' : List ℕ) (k q : ℕ) → Agree next next' k → k ≤ q → q ≤ hop next q
hop_rises next next' k q a h =
    cond_both (ltb q (length next)) (get_or next q 0) q (λ r. q ≤ r)
    (λ t. let low = a.rises q h (ltb-true q (length next) t) in omega arith)
    (λ t. omega arith)

hop_same : (next next' : List ℕ) (k q : ℕ) → Agree next next' k → k ≤ q → hop next q ≡ hop next' q
hop_same next next' k q a h =
    ap (λ n. cond (ltb q n) (get_or next q 0) q) a.long ∙ ap (λ r. cond (ltb q (length next')) r q) (a.same q h)

hops_rise : (next next' : List ℕ) (k n q : ℕ) → Agree next next' k → k ≤ q → q ≤ hops next n q
hops_rise next next' k zero q a h = omega arith
hops_rise next next' k (suc n) q a h =
    let one = hop_rises next next' k q a h in
    let more = hops_rise next next' k n (hop next q) a (omega arith) in
    omega arith

hops_same : (next next' : List ℕ) (k n q : ℕ) → Agree next next' k → k ≤ q → hops next n q ≡ hops next' n q
hops_same next next' k zero q a h = refl
hops_same next next' k (suc n) q a h =
    let one = hop_rises next next' k q a h in
    hops_same next next' k n (hop next q) a (omega arith) ∙ ap (hops next' n) (hop_same next next' k q a h)

head_some : (g : Tag) → 1 ≤ head_of g
head_some Variable = omega arith
head_some Unknown = omega arith
head_some Constructor = omega arith
head_some Call = omega arith
head_some Case = omega arith
head_some And = omega arith
head_some Not = omega arith
head_some Equal = omega arith
head_some Other = omega arith

pub filled_long : (sig : Sig) (bytes : List ℕ) (k : ℕ) → length (filled sig bytes k) ≡ length bytes
filled_long sig bytes zero = length-replicate (length bytes) 0
filled_long sig bytes (suc k) =
    length-set (filled sig bytes k) (length bytes - suc k) (at_most (length bytes) (end_at sig bytes (filled sig bytes k) (length bytes - suc k)))
    ∙ filled_long sig bytes k

-- nothing is filled yet
pub agree_none : (sig : Sig) (bytes next : List ℕ) → length next ≡ length bytes → Agree next (filled sig bytes (length bytes - length bytes)) (length bytes)
agree_none sig bytes next long =
    let all = filled_long sig bytes (length bytes - length bytes) in
    record {
      long = long ∙ sym all;
      same = λ q h. get_or_past next q 0 (omega arith) ∙ sym (get_or_past (filled sig bytes (length bytes - length bytes)) q 0 (omega arith));
      rises = λ q h lt. absurd (omega arith);
    }

-- one more entry, at q
pub agree_more : (sig : Sig) (bytes next : List ℕ) (q v : ℕ) → q < length bytes → length next ≡ length bytes
    → Agree next (filled sig bytes (length bytes - (q + 1))) (q + 1) → v ≡ at_most (length bytes) (end_at sig bytes next q)
    → Agree (set next q v) (filled sig bytes (length bytes - q)) q
agree_more sig bytes next q v low long a e =
    let n = length bytes in
    let k = n - (q + 1) in
    let old = filled sig bytes k in
    let g = tag_of (get_or bytes q 0) in
    let m = parts_of sig g (get_or bytes (q + 1) 0) (get_or bytes (q + 2) 0) in
    let past = head_some g in
    let from : q + 1 ≤ q + head_of g = omega arith in
    let same_end : end_at sig bytes next q ≡ end_at sig bytes old q = hops_same next old (q + 1) m (q + head_of g) a from in
    let up = hops_rise next old (q + 1) m (q + head_of g) a from in
    let high : q < v = subst (λ x. q < x) (sym e) (cond_both (ltb (end_at sig bytes next q) n) (end_at sig bytes next q) n (λ r. q < r) (λ t. omega arith) (λ t. omega arith)) in
    let w = at_most n (end_at sig bytes old q) in
    let v-is : v ≡ w = e ∙ ap (at_most n) same_end in
    let step : suc k ≡ n - q = omega arith in
    let place : q ≡ n - suc k = omega arith in
    let table : set old q w ≡ filled sig bytes (n - q) = ap (λ p. set old p (at_most n (end_at sig bytes old p))) place ∙ ap (filled sig bytes) step in
    subst (λ t. Agree (set next q v) t q) table (grown sig next old q v w low long (filled_long sig bytes k ∙ refl) a v-is high)
  where
    grown : (sig : Sig) (next old : List ℕ) (q v w : ℕ) → q < length bytes → length next ≡ length bytes → length old ≡ length bytes
        → Agree next old (q + 1) → v ≡ w → q < v → Agree (set next q v) (set old q w) q
    grown sig next old q v w low long long' a e high = record {
      long = length-set next q v ∙ a.long ∙ sym (length-set old q w);
      same = λ r h. ⊎_elim (here r) (there r h) (cases_eq r q);
      rises = λ r h lt. ⊎_elim (up r) (on r h lt) (cases_eq r q);
    }
      where
        here : (r : ℕ) → r ≡ q → get_or (set next q v) r 0 ≡ get_or (set old q w) r 0
        here r d =
            ap (λ i. get_or (set next q v) i 0) d ∙ get_or-set_same next q v 0 (omega arith) ∙ e
            ∙ sym (get_or-set_same old q w 0 (omega arith)) ∙ ap (λ i. get_or (set old q w) i 0) (sym d)

        there : (r : ℕ) → q ≤ r → (r ≡ q → ⊥) → get_or (set next q v) r 0 ≡ get_or (set old q w) r 0
        there r h ne = get_or-set_other next q r v 0 ne ∙ a.same r (omega arith) ∙ sym (get_or-set_other old q r w 0 ne)

        up : (r : ℕ) → r ≡ q → r < get_or (set next q v) r 0
        up r d = subst (λ i. i < get_or (set next q v) i 0) (sym d) (subst (λ x. q < x) (sym (get_or-set_same next q v 0 (omega arith))) high)

        on : (r : ℕ) → q ≤ r → r < length (set next q v) → (r ≡ q → ⊥) → r < get_or (set next q v) r 0
        on r h lt ne =
            let same_long = length-set next q v in
            subst (λ x. r < x) (sym (get_or-set_other next q r v 0 ne)) (a.rises r (omega arith) (omega arith))

-- all is filled
pub agree_all : (sig : Sig) (bytes next : List ℕ) → Agree next (filled sig bytes (length bytes - 0)) 0 → next ≡ ends_of sig bytes
agree_all sig bytes next a =
    let all : length bytes - 0 ≡ length bytes = omega arith in
    subst (λ k. next ≡ filled sig bytes k) all
    (ext_get_or 0 next (filled sig bytes (length bytes - 0)) a.long (λ q h. a.same q (omega arith)))

pub min_at_most : (n e : ℕ) → min e n ≡ at_most n e
min_at_most n e =
    cond_both (ltb e n) e n (λ r. min e n ≡ r) (λ t. let low = ltb-true e n t in omega arith) (λ t. let past = ltb-false e n t in omega arith)

at_most_is : (n e : ℕ) → e ≤ n → at_most n e ≡ e
at_most_is n e h = cond_both (ltb e n) e n (λ r. r ≡ e) (λ t. refl) (λ t. let past = ltb-false e n t in omega arith)

-- wherever a typed term stands, from the last k places on, the table is right
filled_ends : (sig : Sig) (bytes : List ℕ) (k : ℕ) → k ≤ length bytes → Ends sig bytes (filled sig bytes k) (length bytes - k)
filled_ends sig bytes zero h =
    let none : length bytes ≡ length bytes - 0 = omega arith in
    subst (Ends sig bytes (filled sig bytes zero)) none (none_past sig bytes (filled sig bytes zero))
filled_ends sig bytes (suc k) h =
    let q = length bytes - suc k in
    let old = filled sig bytes k in
    let e : length bytes - k ≡ q + 1 = omega arith in
    let all = filled_long sig bytes k in
    one_more sig bytes old q (at_most (length bytes) (end_at sig bytes old q)) (subst (Ends sig bytes old) e (filled_ends sig bytes k (omega arith))) all (omega arith)
    (λ le. at_most_is (length bytes) (end_at sig bytes old q) le)

pub ends_stand : (sig : Sig) (bytes : List ℕ) → Ends sig bytes (ends_of sig bytes) 0
ends_stand sig bytes =
    let low : length bytes ≤ length bytes = omega arith in
    let none : length bytes - length bytes ≡ 0 = omega arith in
    subst (Ends sig bytes (ends_of sig bytes)) none (filled_ends sig bytes (length bytes) low)
