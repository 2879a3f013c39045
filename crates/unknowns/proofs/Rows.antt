-- The rows in use, one by one: those that were there, and the children that an opening appends. Assumes nothing.
use Rattle.std.proofs.Common.{◌≡◌, ℕ, zero, suc, ◌+◌, ◌<◌, ◌≤◌, ◌-◌, ◌⊎◌, List, [], ◌∷◌, ◌++◌, map, drop, length, get_or, add-one, sym, refl, ap, ◌∙◌, inl, inr, arith, append_assoc, length-append, get_or-append-add}
use Rattle.std.proofs.lemmas.List.{get_or-take, get_or-map, get_or_append_left, length-map, append-nil, at_drop_more, at_drop_all}
use Rattle.std.proofs.lemmas.Bool.{cases_lt}
use Rattle.syntax.specs.Problems.{Problem}
use Rattle.places.specs.Places.{offset, births}
use Rattle.unknowns.specs.declared.table.Unknown.{Unknown}
use Rattle.unknowns.specs.declared.table.Table.{Table as Code}
use Rattle.unknowns.specs.Listing.{blank, row}
use Rattle.unknowns.specs.Opening.{rows_of, unopened, level_under, kids_under}

pub row_of : (t : Code) (m : ℕ) → m < t.len → row t m ≡ get_or (rows_of t) m blank
row_of t m l = sym (get_or-take t.len t.rows m blank l)

-- the k-th child is an argument of a constructor
pub which : (cs : List (List ℕ)) (k : ℕ) → k < births cs → (c j : ℕ) × (k ≡ offset cs c + j) × (c < length cs) × (j < length (get_or cs c []))
which [] k l = absurd (omega (arith, l))
which (ts ∷ cs) k l = go (cases_lt k (length ts)) (which cs (k - length ts))
  where
    go : (k < length ts) ⊎ (length ts ≤ k)
        → (k - length ts < births cs
        → (c j : ℕ) × (k - length ts ≡ offset cs c + j) × (c < length cs) × (j < length (get_or cs c [])))
        → (c j : ℕ) × (k ≡ offset (ts ∷ cs) c + j) × (c < length (ts ∷ cs)) × (j < length (get_or (ts ∷ cs) c []))
    go (inl m) ih = (0, k, omega arith, omega arith, m)
    go (inr m) ih =
        let q = ih (omega (arith, l, m)) in
        let e = q.2 in
        let f = q.3 in
        (suc q.0, q.1, omega (arith, e, m), omega (arith, f), q.4)

module _ (p : Problem) (x : Unknown) where
  pub kids_length : (c : ℕ) (cs : List (List ℕ)) → length (kids_under p x c cs) ≡ births cs
  kids_length c [] = refl
  kids_length c (ts ∷ cs) =
      let a = length-append (map (unopened (level_under p x c)) ts) (kids_under p x (suc c) cs) in
      let b = length-map ts (unopened (level_under p x c)) in
      let ih = kids_length (suc c) cs in
      omega (arith, a, b, ih)

  pub kid_at : (c₀ : ℕ) (cs : List (List ℕ)) (c j : ℕ) → c < length cs → j < length (get_or cs c [])
      → get_or (kids_under p x c₀ cs) (offset cs c + j) blank ≡ unopened (level_under p x (c₀ + c)) (get_or (get_or cs c []) j 0)
  kid_at c₀ [] c j l m = absurd (omega (arith, l))
  kid_at c₀ (ts ∷ cs) zero j l m =
      let b = length-map ts (unopened (level_under p x c₀)) in
      ap (λ k. get_or (kids_under p x c₀ (ts ∷ cs)) k blank) none_before
      ∙ get_or_append_left (map (unopened (level_under p x c₀)) ts) (kids_under p x (suc c₀) cs) blank j (omega (arith, m, b))
      ∙ get_or-map (unopened (level_under p x c₀)) ts j 0 blank m
      ∙ ap (λ c. unopened (level_under p x c) (get_or ts j 0)) same
    where
      none_before : 0 + j ≡ j
      none_before = omega arith

      same : c₀ ≡ c₀ + 0
      same = omega arith
  kid_at c₀ (ts ∷ cs) (suc c) j l m =
      let b = length-map ts (unopened (level_under p x c₀)) in
      ap (λ k. get_or (kids_under p x c₀ (ts ∷ cs)) k blank) (omega (arith, b))
      ∙ get_or-append-add (map (unopened (level_under p x c₀)) ts) (kids_under p x (suc c₀) cs) (offset cs c + j) blank
      ∙ kid_at (suc c₀) cs c j (omega (arith, l)) m
      ∙ ap (λ k. unopened (level_under p x k) (get_or (get_or cs c []) j 0)) same
    where
      same : suc c₀ + c ≡ c₀ + suc c
      same = omega arith

-- the children of a constructor, and those of the ones after it
pub births_next : (cs : List (List ℕ)) (c : ℕ) → c < length cs → births (drop c cs) ≡ length (get_or cs c []) + births (drop (c + 1) cs)
births_next cs c l = at_drop_more births cs c [] l

pub kids_next : (p : Problem) (x : Unknown) (cs : List (List ℕ)) (c : ℕ) → c < length cs
    → kids_under p x c (drop c cs) ≡ map (unopened (level_under p x c)) (get_or cs c []) ++ kids_under p x (c + 1) (drop (c + 1) cs)
kids_next p x cs c l =
    at_drop_more (kids_under p x c) cs c [] l
    ∙ ap (λ k. map (unopened (level_under p x c)) (get_or cs c []) ++ kids_under p x k (drop (c + 1) cs)) (sym (add-one c))

-- one more constructor's children are appended, and in the end there are none left
pub kids_step : (p : Problem) (x : Unknown) (cs : List (List ℕ)) (c level : ℕ) (ts : List ℕ) (before after all : List Unknown)
    → c < length cs → level ≡ level_under p x c → ts ≡ get_or cs c [] → after ≡ before ++ map (unopened level) ts
    → before ++ kids_under p x c (drop c cs) ≡ all → after ++ kids_under p x (c + 1) (drop (c + 1) cs) ≡ all
kids_step p x cs c level ts before after all l same of is e =
    ap (λ xs. xs ++ rest) is
    ∙ append_assoc before (map (unopened level) ts) rest
    ∙ (λ i. before ++ (map (unopened (same i)) (of i) ++ rest))
    ∙ ap (λ xs. before ++ xs) (sym (kids_next p x cs c l))
    ∙ e
  where
    rest : List Unknown
    rest = kids_under p x (c + 1) (drop (c + 1) cs)

pub kids_done : (p : Problem) (x : Unknown) (cs : List (List ℕ)) (c : ℕ) (xs all : List Unknown) → length cs ≤ c
    → xs ++ kids_under p x c (drop c cs) ≡ all → xs ≡ all
kids_done p x cs c xs all l e = sym (append-nil xs) ∙ ap (λ ys. xs ++ ys) (sym (at_drop_all (kids_under p x c) cs c l)) ∙ e

pub births_done : (cs : List (List ℕ)) (c : ℕ) → length cs ≤ c → births (drop c cs) ≡ 0
births_done cs c l = at_drop_all births cs c l
