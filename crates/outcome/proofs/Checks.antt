-- The clauses of a row, and what the first of them shows that written values do not meet. A literal that the written values make
-- false is false on the trail or open; a clause of such literals, none of them open, shows the trail dead.
use Rattle.std.proofs.Common.{◌≡◌, ℕ, ◌+◌, ◌/◌, ◌%◌, ◌<◌, Bool, true, false, not, eqb, List, [], ◌∷◌, length, get_or, Option, Some, None, MatchOption, All, Contains, Bor, sym, refl, ap, ◌∙◌, subst, ⊎_elim, arith, add-one}
use Rattle.std.specs.List.{find}
use Rattle.std.proofs.lemmas.Bool.{both_ways, cases_eq, cases_Bool, cond-true, cond-false, eqb-true, eqb-false, eq-eqb, ne_eqb, not-true, not-false}
use Rattle.std.proofs.lemmas.List.Elements.{All-nil, All-cons, All-contains, All-weaker, All-from_get_or}
use Rattle.std.proofs.lemmas.List.Sums.{AllPass-from_list_all, list_all-from_AllPass}
use Rattle.chooser.specs.Ways.{lit, some, every, allotted, written}
use Rattle.rows.specs.Rows.{holds, inside, clauses_of}
use Rattle.rows.proofs.Clauses.{holds_clauses, clauses_named}
use Rattle.std.proofs.lemmas.List.Folds.{list_any_none}
use Rattle.std.specs.Option.{option_map}
use Rattle.implied.specs.Implied.{Implied}
use Rattle.trail.specs.declared.step.Step.{Step}
use Rattle.trail.specs.declared.step.Value.{Value}
use Rattle.trail.specs.declared.step.Value.TheVariants.{False, True, Open}
use Rattle.trail.specs.Trails.{literal_at, Dead, Sound}
use Rattle.trail.specs.Values.{value_at, Free, Refuted}
use Rattle.trail.proofs.Sounds.{refuted_off}
use Rattle.outcome.specs.Outcome.{byte_of, Copied, Failing, Missed}

-- what is found is the first that passes; where nothing is, each fails
pub found : {X : Type 0} (test : X → Bool) (xs : List X) → MatchOption (find test xs) (All (λ x. test x ≡ false) xs) (λ x. Contains xs x × (test x ≡ true))
found test [] = All-nil (λ x. test x ≡ false)
found {X} test (x ∷ xs) =
    let P : Type 0 = All (λ y. test y ≡ false) (x ∷ xs) in
    let Q : X → Type 0 = λ y. Contains (x ∷ xs) y × (test y ≡ true) in
    ⊎_elim
    (λ t. subst (λ o. MatchOption o P Q) (sym (cond-true (test x) (Some x) (find test xs) t)) ((0, omega arith, refl), t))
    (λ f. subst (λ o. MatchOption o P Q) (sym (cond-false (test x) (Some x) (find test xs) f))
    (elim (find test xs) as (λ o. MatchOption o (All (λ y. test y ≡ false) xs) (λ y. Contains xs y × (test y ≡ true)) → MatchOption o P Q) [
      | None ↦ λ h. All-cons (λ y. test y ≡ false) x xs f h
      | Some y ↦ λ h. ((h.0.0 + 1, omega (arith, h.0.1), (rw add-one h.0.2)), h.1)
    ] (found test xs)))
    (cases_Bool (test x))

module _ (row out : List ℕ) (whole : inside (length out) 0 row ≡ true) where
  abbrev misses : List ℕ → Bool
  misses c = not (some (lit (written out)) c)

  -- no clause of the row is missed
  none_missed : All (λ c. misses c ≡ false) (clauses_of row) → holds (lit (written out)) true 0 row ≡ true
  none_missed h =
      holds_clauses (lit (written out)) row
      ∙ list_all-from_AllPass (some (lit (written out))) (clauses_of row) (All-weaker (λ c. misses c ≡ false) (λ c. some (lit (written out)) c ≡ true) (λ c e. not-false (some (lit (written out)) c) e) (clauses_of row) h)

  one_missed : (c : List ℕ) → Contains (clauses_of row) c → misses c ≡ true → Failing row out c
  one_missed c among e =
      record {
        known = λ p x. All-contains (λ k. some (lit p) k ≡ true) (clauses_of row) c (AllPass-from_list_all (some (lit p)) (clauses_of row) (sym (holds_clauses (lit p) row) ∙ x)) among;
        named = All-contains (λ k. allotted (length out) k ≡ true) (clauses_of row) c (AllPass-from_list_all (allotted (length out)) (clauses_of row) (clauses_named (length out) 0 row whole)) among;
        off = not-true (some (lit (written out)) c) e;
      }

  -- the first clause that is missed
  pub first_missed : (r : Option (Bor (List ℕ))) → option_map (λ x. x.now) r ≡ find misses (clauses_of row)
      → MatchOption r (holds (lit (written out)) true 0 row ≡ true) (λ c. Failing row out c.now)
  first_missed None e = none_missed (subst (λ o. MatchOption o (All (λ c. misses c ≡ false) (clauses_of row)) (λ c. Contains (clauses_of row) c × (misses c ≡ true))) (sym e) (found misses (clauses_of row)))
  first_missed (Some c) e =
      let w = subst (λ o. MatchOption o (All (λ k. misses k ≡ false) (clauses_of row)) (λ k. Contains (clauses_of row) k × (misses k ≡ true))) (sym e) (found misses (clauses_of row)) in
      one_missed c.now w.0 w.1

-- the first assumption that is missed
module _ (given out : List ℕ) where
  abbrev off : ℕ → Bool
  off g = not (lit (written out) g)

  pub first_denied : (r : Option ℕ) → r ≡ find off given → MatchOption r (every (lit (written out)) given ≡ true) (λ g. Missed given out g)
  first_denied r e =
      elim r as (λ o. MatchOption o (All (λ g. off g ≡ false) given) (λ g. Contains given g × (off g ≡ true)) → MatchOption o (every (lit (written out)) given ≡ true) (λ g. Missed given out g)) [
        | None ↦ λ h. list_all-from_AllPass (lit (written out)) given (λ k d lt. not-false (lit (written out) (get_or given k d)) (h k d lt))
        | Some g ↦ λ h. record { among = h.0; off = not-true (lit (written out) g) h.1 }
      ] (subst (λ o. MatchOption o (All (λ g. off g ≡ false) given) (λ g. Contains given g × (off g ≡ true))) (sym e) (found off given))

-- a literal that is not met as written, and is not open
byte_one : (v : Value) → byte_of v ≡ 1 → v ≡ True
byte_one False e = let z : ⊥ = omega arith in absurd z
byte_one True e = refl
byte_one Open e = let z : ⊥ = omega arith in absurd z

pub byte_small : (v : Value) → byte_of v < 2
byte_small False = omega arith
byte_small True = omega arith
byte_small Open = omega arith

byte_none : (v : Value) → (v ≡ Open → ⊥) → (byte_of v ≡ 1 → ⊥) → v ≡ False
byte_none False shut low = refl
byte_none True shut low = absurd (low refl)
byte_none Open shut low = absurd (shut refl)

pub refuted_from : (values : List Value) (out : List ℕ) (l : ℕ) → Copied values out (l / 2) → l / 2 < length values → (Free values l → ⊥) → lit (written out) l ≡ false → Refuted values l
refuted_from values out l c lt shut off =
    let v = value_at values (l / 2) in
    ⊎_elim
    (λ e. let w : written out (l / 2) ≡ false = sym (cond-true (eqb (l % 2) 0) (written out (l / 2)) (not (written out (l / 2))) (eq-eqb (l % 2) 0 e)) ∙ off in
    (lt, byte_none v shut (λ one. eqb-false (get_or out (l / 2) 0) 1 w (c ∙ one)) ∙ sym (cond-true (eqb (l % 2) 0) False True (eq-eqb (l % 2) 0 e))))
    (λ o. let w : not (written out (l / 2)) ≡ false = sym (cond-false (eqb (l % 2) 0) (written out (l / 2)) (not (written out (l / 2))) (ne_eqb (l % 2) 0 o)) ∙ off in
    (lt, byte_one v (sym c ∙ eqb-true (get_or out (l / 2) 0) 1 (not-false (written out (l / 2)) w)) ∙ sym (cond-false (eqb (l % 2) 0) False True (ne_eqb (l % 2) 0 o))))
    (cases_eq (l % 2) 0)

module _ (X : (ℕ → Bool) → Bool) (values : List Value) (positions : List ℕ) (steps : List Step) (s : Sound X values positions steps) where
  -- a clause that each allowed way meets, of false literals
  pub all_refuted : (c : List ℕ) → Implied X c → ((k : ℕ) → k < length c → Refuted values (get_or c k 0)) → Dead X steps
  all_refuted c known f p x along =
      both_ways (some (lit p) c) (list_any_none (lit p) c (All-from_get_or (λ l. lit p l ≡ false) c 0 (λ k lt. refuted_off X values positions steps s p (get_or c k 0) along (f k lt)))) (known p x)

  -- an assumption on the trail that is false there
  pub both_dead : (g j : ℕ) → j < length steps → literal_at steps j ≡ g → Refuted values g → Dead X steps
  both_dead g j lt is f p x along = both_ways (lit p g) (refuted_off X values positions steps s p g along f) (ap (lit p) (sym is) ∙ along j lt)
