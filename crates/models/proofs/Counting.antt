-- A list that has nothing twice is no longer than one that has all of it.
use Rattle.std.proofs.Common.{◌≡◌, suc, ◌≤◌, ◌⊎◌, inl, inr, List, [], ◌∷◌, ◌++◌, length, refl, sym, ap, subst, arith}
use Rattle.judging.specs.Asked.{◌∈◌, first, later}
use Rattle.finder.specs.Tables.{Distinct, ◌apart∷◌}
use Rattle.finder.proofs.Tables.{in_cons}

module _ {A : Type 0} where
  -- the list without one that it has
  abbrev without : {x : A} {ys : List A} → x ∈ ys → List A
  without (first {E = E}) = E
  without (later {v = v} m) = v ∷ without m

  without_length : {x : A} {ys : List A} (m : x ∈ ys) → length ys ≡ suc (length (without m))
  without_length first = refl
  without_length (later m) = ap suc (without_length m)

  still_in : {x z : A} {ys : List A} (m : x ∈ ys) → z ∈ ys → ¬ (x ≡ z) → z ∈ without m
  still_in first first n = absurd (n refl)
  still_in first (later k) n = k
  still_in (later m) first n = first
  still_in (later m) (later k) n = later (still_in m k n)

  pub no_longer : (xs ys : List A) → Distinct xs → ((x : A) → x ∈ xs → x ∈ ys) → length xs ≤ length ys
  no_longer [] ys d f = omega arith
  no_longer (x ∷ xs) ys (n apart∷ d) f =
      let m = f x first in
      let one = without_length m in
      let rest = no_longer xs (without m) d (λ z k. still_in m (f z (later k)) (λ e. n (subst (λ y. y ∈ xs) (sym e) k))) in
      omega (arith, one, rest)

  pub in_either : (xs ys : List A) (z : A) → z ∈ (xs ++ ys) → (z ∈ xs) ⊎ (z ∈ ys)
  in_either [] ys z m = inr m
  in_either (x ∷ xs) ys z m = go (in_cons m) (in_either xs ys z)
    where
      go : (x ≡ z) ⊎ (z ∈ (xs ++ ys)) → (z ∈ (xs ++ ys) → (z ∈ xs) ⊎ (z ∈ ys)) → (z ∈ (x ∷ xs)) ⊎ (z ∈ ys)
      go (inl e) f = inl (subst (λ y. y ∈ (x ∷ xs)) e first)
      go (inr k) f = elim (f k) [ inl l ↦ inl (later l) | inr r ↦ inr r ]

  pub distinct_both : (xs ys : List A) → Distinct xs → Distinct ys → ((z : A) → z ∈ xs → z ∈ ys → ⊥) → Distinct (xs ++ ys)
  distinct_both [] ys d e f = e
  distinct_both (x ∷ xs) ys (n apart∷ d) e f =
      (λ m. elim (in_either xs ys x m) [ inl l ↦ n l | inr r ↦ f x first r ]) apart∷ distinct_both xs ys d e (λ z k. f z (later k))
