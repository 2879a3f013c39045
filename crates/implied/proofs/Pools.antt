-- A pool when a clause is put behind the others, and what is known of the allowed ways when they get fewer.
use Rattle.std.proofs.Common.{◌≡◌, ℕ, zero, suc, ◌+◌, ◌<◌, ◌≤◌, Bool, true, false, List, [], ◌∷◌, ◌++◌, length, get_or, take, drop, map, replicate, sym, refl, ap, ◌∙◌, subst, ⊎_elim, arith, length-append}
use Rattle.std.proofs.lemmas.Bool.{both_ways, cases_eq}
use Rattle.std.proofs.lemmas.List.{get_or_append_left, take-append-le, drop-append-le, take_all, map-append, length-drop}
use Rattle.std.proofs.Math.Seq.{get_or-append_seam, drop-append-add}
use Rattle.implied.specs.Lying.{clause_at, Lying}
use Rattle.implied.specs.Implied.{Met, Off}

pub below_more : (P : ℕ → Type 0) (k : ℕ) → ((q : ℕ) → q < k → P q) → P k → (q : ℕ) → q < k + 1 → P q
below_more P k h here q lt = ⊎_elim (λ e. subst P (sym e) here) (λ ne. h q (omega arith)) (cases_eq q k)

-- what holds of each item of a list and of one more
pub each_more : {A : Type 0} (P : A → Type 0) (xs : List A) (x d : A) → ((q : ℕ) → q < length xs → P (get_or xs q d)) → P x → (q : ℕ) → q < length (xs ++ x ∷ []) → P (get_or (xs ++ x ∷ []) q d)
each_more P xs x d h here q lt =
    let long = length-append xs (x ∷ []) in
    below_more (λ k. P (get_or (xs ++ x ∷ []) k d)) (length xs)
    (λ k less. subst P (sym (get_or_append_left xs (x ∷ []) d k less)) (h k less))
    (subst P (sym (get_or-append_seam xs x [] d)) here) q (omega arith)

-- numbers put behind a run leave the clauses that lie within it
module _ (numbers more : List ℕ) where
  clause_same : (s : ℕ) → s + 1 + get_or numbers s 0 ≤ length numbers → clause_at (numbers ++ more) s ≡ clause_at numbers s
  clause_same s fit =
      let long = length-drop (s + 1) numbers in
      ap (λ n. take n (drop (s + 1) (numbers ++ more))) (get_or_append_left numbers more 0 s (omega arith))
      ∙ ap (λ z. take (get_or numbers s 0) z) (drop-append-le (s + 1) numbers more (omega arith))
      ∙ take-append-le (get_or numbers s 0) (drop (s + 1) numbers) more (omega arith)

  pub clauses_same : (starts : List ℕ) → Lying numbers starts → map (clause_at (numbers ++ more)) starts ≡ map (clause_at numbers) starts
  clauses_same [] h = refl
  clauses_same (s ∷ ss) h =
      ap (λ z. z ∷ map (clause_at (numbers ++ more)) ss) (clause_same s (h 0 (omega arith)))
      ∙ ap (λ z. clause_at numbers s ∷ z) (clauses_same ss (λ c lt. h (suc c) (omega arith)))

module _ (numbers starts clause : List ℕ) (lies : Lying numbers starts) where
  clause_last : clause_at (numbers ++ length clause ∷ clause) (length numbers) ≡ clause
  clause_last =
      ap (λ n. take n (drop (length numbers + 1) (numbers ++ length clause ∷ clause))) (get_or-append_seam numbers (length clause) clause 0)
      ∙ ap (λ z. take (length clause) z) (drop-append-add numbers (length clause ∷ clause) 1)
      ∙ take_all (length clause) clause (omega arith)

  pub clauses_pushed : map (clause_at (numbers ++ length clause ∷ clause)) (starts ++ length numbers ∷ []) ≡ map (clause_at numbers) starts ++ clause ∷ []
  clauses_pushed =
      map-append (clause_at (numbers ++ length clause ∷ clause)) starts (length numbers ∷ [])
      ∙ ap (λ z. z ++ clause_at (numbers ++ length clause ∷ clause) (length numbers) ∷ []) (clauses_same numbers (length clause ∷ clause) starts lies)
      ∙ ap (λ z. map (clause_at numbers) starts ++ z ∷ []) clause_last

  pub lying_pushed : Lying (numbers ++ length clause ∷ clause) (starts ++ length numbers ∷ [])
  lying_pushed =
      let long = length-append numbers (length clause ∷ clause) in
      each_more (λ s. s + 1 + get_or (numbers ++ length clause ∷ clause) s 0 ≤ length (numbers ++ length clause ∷ clause)) starts (length numbers) 0
      (λ c lt. let fit = lies c lt in let same = get_or_append_left numbers (length clause ∷ clause) 0 (get_or starts c 0) (omega arith) in omega arith)
      (let last = get_or-append_seam numbers (length clause) clause 0 in omega arith)

pub met_none : (X : (ℕ → Bool) → Bool) (clauses : List (List ℕ)) → clauses ≡ [] → Met X clauses
met_none X clauses none c lt = let long : length clauses ≡ 0 = ap (λ z. length z) none in let z : ⊥ = omega arith in absurd z

off_one : (n m : ℕ) → get_or (replicate n false) m false ≡ false
off_one zero m = refl
off_one (suc n) zero = refl
off_one (suc n) (suc m) = off_one n m

pub off_none : (X : (ℕ → Bool) → Bool) (n : ℕ) (off : List Bool) → off ≡ replicate n false → Off X off
off_none X n off none m e = absurd (both_ways (get_or off m false) (ap (λ z. get_or z m false) none ∙ off_one n m) e)

-- what is known of the ways that X allows is known of fewer ways too
module _ (X Y : (ℕ → Bool) → Bool) (less : (p : ℕ → Bool) → Y p ≡ true → X p ≡ true) where
  pub met_fewer : (clauses : List (List ℕ)) → Met X clauses → Met Y clauses
  met_fewer clauses h c lt p y = h c lt p (less p y)

  pub off_fewer : (off : List Bool) → Off X off → Off Y off
  off_fewer off h m e p y = h m e p (less p y)
