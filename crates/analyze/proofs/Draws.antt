-- The clause that a walk back over the trail draws: at each place an allowed way meets the clause written so far, or makes a
-- seen literal below false.
use Rattle.std.proofs.Common.{◌≡◌, ℕ, zero, suc, ◌+◌, ◌/◌, ◌<◌, Bool, true, false, ◌⊎◌, List, [], ◌∷◌, ◌++◌, length, get_or, Some, None, Option, sym, refl, subst, inl, inr, ⊎_elim, arith}
use Rattle.std.proofs.lemmas.Bool.{both_ways, or_cases, or_left, or_right, cases_eq}
use Rattle.chooser.specs.Ways.{lit, some}
use Rattle.rows.specs.Lits.{Turned}
use Rattle.implied.proofs.Literals.{lit_off, lit_on}
use Rattle.trail.specs.declared.step.Step.{Step}
use Rattle.trail.specs.Trails.{literal_at}
use Rattle.analyze.specs.Analysis.{Wrong, Grows, Absorbed}

module _ (f : ℕ → Bool) where
  -- a list of which some literal passes has a place for it
  pub some_place : (c : List ℕ) → some f c ≡ true → (k : ℕ) × (k < length c) × (f (get_or c k 0) ≡ true)
  some_place [] e = absurd (both_ways false refl e)
  some_place (x ∷ xs) e =
      ⊎_elim (λ on. (zero, omega arith, on)) (λ later. let w = some_place xs later in let h : w.0 < length xs = w.1 in (suc w.0, omega arith, w.2)) (or_cases (f x) (some f xs) e)

  pub some_before : (c : List ℕ) (t : ℕ) → some f c ≡ true → some f (c ++ t ∷ []) ≡ true
  some_before [] t e = absurd (both_ways false refl e)
  some_before (x ∷ xs) t e = ⊎_elim (λ a. or_left (f x) (some f (xs ++ t ∷ [])) a) (λ b. or_right (f x) (some f (xs ++ t ∷ [])) (some_before xs t b)) (or_cases (f x) (some f xs) e)

  pub some_last : (c : List ℕ) (t : ℕ) → f t ≡ true → some f (c ++ t ∷ []) ≡ true
  some_last [] t e = or_left (f t) false e
  some_last (x ∷ xs) t e = or_right (f x) (some f (xs ++ t ∷ [])) (some_last xs t e)

pub wrong_grows : (p : ℕ → Bool) (steps : List Step) (a b : List Bool) (i : ℕ) → Grows a b → Wrong p steps a i → Wrong p steps b i
wrong_grows p steps a b i g w = (w.0, w.1, g (literal_at steps w.0 / 2) w.2, w.3)

-- a literal of a clause that was gone over is false, shows that a seen one is false, or was left out
abbrev pub Part : (ℕ → Bool) → List Step → List Bool → ℕ → Option ℕ → ℕ → Type 0
Part p steps seen i but m = (lit p m ≡ false) ⊎ (Wrong p steps seen i ⊎ (Some m ≡ but))

pub part_grows : (p : ℕ → Bool) (steps : List Step) (a b : List Bool) (i : ℕ) (but : Option ℕ) (m : ℕ) → Grows a b → Part p steps a i but m → Part p steps b i but m
part_grows p steps a b i but m g h = ⊎_elim (λ off. inl off) (λ z. ⊎_elim (λ w. inr (inl (wrong_grows p steps a b i g w))) (λ out. inr (inr out)) z) h

-- a literal whose opposite stands below and is seen
pub part_seen : (p : ℕ → Bool) (steps : List Step) (seen : List Bool) (i : ℕ) (but : Option ℕ) (m : ℕ) → (j : ℕ) × (j < i) × Turned (literal_at steps j) m × (get_or seen (literal_at steps j / 2) false ≡ true) → Part p steps seen i but m
part_seen p steps seen i but m w =
    elim (lit p m) as (λ b. lit p m ≡ b → Part p steps seen i but m) [
      | true ↦ λ on. inr (inl (w.0, w.1, w.3, lit_off p (literal_at steps w.0) m ((sym w.2.0, λ e. w.2.1 (sym e))) on))
      | false ↦ λ off. inl off
    ] refl

pub absorbed_from : (X : (ℕ → Bool) → Bool) (steps : List Step) (seen : List Bool) (i : ℕ) (but : Option ℕ) (clause : List ℕ) → ((p : ℕ → Bool) → X p ≡ true → some (lit p) clause ≡ true) → ((p : ℕ → Bool) → X p ≡ true → (k : ℕ) → k < length clause → Part p steps seen i but (get_or clause k 0)) → Absorbed X steps seen i but
absorbed_from X steps seen i None clause met parts = λ p x.
    let w = some_place (lit p) clause (met p x) in
    ⊎_elim (λ off. absurd (both_ways (lit p (get_or clause w.0 0)) off w.2)) (λ z. ⊎_elim (λ wrong. wrong) (λ out. let y : ⊥ = cc in absurd y) z) (parts p x w.0 w.1)
absorbed_from X steps seen i (Some l) clause met parts = λ p x.
    let w = some_place (lit p) clause (met p x) in
    ⊎_elim (λ off. absurd (both_ways (lit p (get_or clause w.0 0)) off w.2)) (λ z. ⊎_elim (λ wrong. inl wrong) (λ out. let same : get_or clause w.0 0 ≡ l = cc in inr (subst (λ m. lit p m ≡ true) same w.2)) z) (parts p x w.0 w.1)

-- one place of the trail down
wrong_less : (p : ℕ → Bool) (steps : List Step) (seen : List Bool) (i : ℕ) → Wrong p steps seen (i + 1) → Wrong p steps seen i ⊎ ((get_or seen (literal_at steps i / 2) false ≡ true) × (lit p (literal_at steps i) ≡ false))
wrong_less p steps seen i w =
    let lt : w.0 < i + 1 = w.1 in
    ⊎_elim
    (λ e. inr (subst (λ j. (get_or seen (literal_at steps j / 2) false ≡ true) × (lit p (literal_at steps j) ≡ false)) e (w.2, w.3)))
    (λ ne. inl (w.0, omega arith, w.2, w.3))
    (cases_eq w.0 i)

-- what the walk keeps at the place i
abbrev pub Walked : (ℕ → Bool) → List Step → List Bool → List ℕ → ℕ → Type 0
Walked p steps seen clause i = (some (lit p) clause ≡ true) ⊎ Wrong p steps seen i

module _ (p : ℕ → Bool) (steps : List Step) (a b : List Bool) (clause : List ℕ) (i : ℕ) (old : Walked p steps a clause (i + 1)) where
  pub walk_skip : (get_or a (literal_at steps i / 2) false ≡ true → ⊥) → Walked p steps a clause i
  walk_skip off = ⊎_elim (λ h. inl h) (λ w. ⊎_elim (λ z. inr z) (λ z. absurd (off z.0)) (wrong_less p steps a i w)) old

  pub walk_keep : (t : ℕ) → Grows a b → Turned (literal_at steps i) t → Walked p steps b (clause ++ t ∷ []) i
  walk_keep t grows turn =
      ⊎_elim
      (λ h. inl (some_before (lit p) clause t h))
      (λ w. ⊎_elim (λ z. inr (wrong_grows p steps a b i grows z)) (λ z. inl (some_last (lit p) clause t (lit_on p t (literal_at steps i) turn z.1))) (wrong_less p steps a i w))
      old

  pub walk_take : Grows a b → Wrong p steps b i ⊎ (lit p (literal_at steps i) ≡ true) → Walked p steps b clause i
  walk_take grows new =
      ⊎_elim (λ h. inl h)
      (λ w. ⊎_elim (λ z. inr (wrong_grows p steps a b i grows z)) (λ z. ⊎_elim (λ y. inr y) (λ y. absurd (both_ways (lit p (literal_at steps i)) z.1 y)) new) (wrong_less p steps a i w))
      old
