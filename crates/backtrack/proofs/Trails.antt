-- A step more on the trail, and what a clause that is false or leaves one literal says of it.
use Rattle.std.proofs.Common.{◌≡◌, ℕ, ◌*◌, ◌/◌, ◌<◌, ◌≤◌, Bool, true, false, ◌&&◌, eqb, ltb, List, [], ◌∷◌, ◌++◌, length, get_or, set, sym, refl, ap, ◌∙◌, subst, ⊎_elim, arith, append_assoc, length-append, length-set, get_or-set_other, get_or-set_same}
use mathlib.Core.Bool.{and-true}
use Rattle.std.specs.List.{Contains}
use Rattle.std.proofs.lemmas.Bool.{cases_eq, both_ways, and_from, lt-ltb}
use Rattle.std.proofs.lemmas.List.{map-append, append-nil, get_or_default}
use Rattle.std.proofs.lemmas.List.Elements.{Contains-append_left, Contains-append_right}
use Rattle.chooser.specs.Ways.{lit, some, every, allotted, written}
use Rattle.std.proofs.lemmas.List.Folds.{list_all-append}
use Rattle.std.proofs.lemmas.List.Sums.{AllPass-from_list_all}
use Rattle.rows.proofs.Lits.{lit_same, lit_fixes}
use Rattle.backtrack.specs.Values.{Agrees, Opened, bit}
use Rattle.backtrack.specs.Trail.{lit_of, lits, Leads, Dead, Founded, Sound, Witness, Trail}
use Rattle.backtrack.specs.declared.trail.Step.{Step}
use Rattle.backtrack.proofs.Values.{opens_shut, bit_true}

pub lits_more : (steps : List Step) (s : Step) → lits (steps ++ (s ∷ [])) ≡ lits steps ++ (lit_of s ∷ [])
lits_more steps s = map-append lit_of steps (s ∷ [])

pub every_more : (f : ℕ → Bool) (ls : List ℕ) (l : ℕ) → every f (ls ++ (l ∷ [])) ≡ (every f ls && f l)
every_more f ls l = list_all-append f ls (l ∷ []) ∙ ap (λ b. every f ls && b) (and-true (f l))

every_there : (f : ℕ → Bool) (ls : List ℕ) (l : ℕ) → every f ls ≡ true → Contains ls l → f l ≡ true
every_there f ls l e h = subst (λ x. f x ≡ true) (get_or_default ls h.0 0 l h.1 ∙ h.2) (AllPass-from_list_all f ls e h.0 0 h.1)

module _ (X : (ℕ → Bool) → Bool) where
  sound_push : (before : List ℕ) (steps : List Step) (s : Step) → Sound X before steps → Founded X (before ++ lits steps) s → Sound X before (steps ++ (s ∷ []))
  sound_push before [] s h f = (subst (λ b. Founded X b s) (append-nil before) f, tt)
  sound_push before (t ∷ ts) s h f = (h.0, sound_push (before ++ (lit_of t ∷ [])) ts s h.1 (subst (λ b. Founded X b s) (sym (append_assoc before (lit_of t ∷ []) (lits ts))) f))

  pub sound_pop : (before : List ℕ) (steps : List Step) (s : Step) → Sound X before (steps ++ (s ∷ [])) → Sound X before steps × Founded X (before ++ lits steps) s
  sound_pop before [] s h = (tt, subst (λ b. Founded X b s) (sym (append-nil before)) h.0)
  sound_pop before (t ∷ ts) s h =
      let rest = sound_pop (before ++ (lit_of t ∷ [])) ts s h.1 in
      ((h.0, rest.0), subst (λ b. Founded X b s) (append_assoc before (lit_of t ∷ []) (lits ts)) rest.1)

  module _ (values : List ℕ) (steps : List Step) (t : Trail X values steps) where
    -- a way that has the trail's literals agrees with the values
    pub agrees : (p : ℕ → Bool) → every (lit p) (lits steps) ≡ true → Agrees p values
    agrees p along k lt ne =
        let w = t.witness k lt ne in
        subst (λ i. p i ≡ written values i) w.names (lit_fixes p (written values) w.literal (every_there (lit p) (lits steps) w.literal along w.on) w.true_there)

    pub room : (l : ℕ) → Opened values l → length steps < length values
    room l h =
        let lt : l / 2 < length values = let a = h.0 in omega arith in
        let c = t.counted in
        omega (arith, opens_shut values (l / 2) lt 0 h.1 (λ e. omega arith))

    -- a clause that every allowed way meets is false
    pub dead_clash : (clause : List ℕ) → ((p : ℕ → Bool) → X p ≡ true → some (lit p) clause ≡ true) → ((p : ℕ → Bool) → Agrees p values → some (lit p) clause ≡ false) → Dead X (lits steps)
    dead_clash clause meets clash p x along = both_ways (some (lit p) clause) (clash p (agrees p along)) (meets p x)

    -- the clause leaves one literal
    pub leads_clause : (clause : List ℕ) (l : ℕ) → ((p : ℕ → Bool) → X p ≡ true → some (lit p) clause ≡ true) → ((p : ℕ → Bool) → Agrees p values → some (lit p) clause ≡ true → lit p l ≡ true) → Leads X (lits steps) l
    leads_clause clause l meets forced p x along = forced p (agrees p along) (meets p x)

    module _ (s : Step) (h : Opened values (lit_of s)) where
      abbrev l : ℕ
      l = lit_of s

      within : l / 2 < length values
      within = let a = h.0 in omega arith

      abbrev now : List ℕ
      now = set values (l / 2) (bit l)

      kept_value : (k : ℕ) → (k ≡ l / 2 → ⊥) → get_or now k 0 ≡ get_or values k 0
      kept_value k ne = get_or-set_other values (l / 2) k (bit l) 0 ne

      witness_push : (k : ℕ) → k < length now → (get_or now k 0 ≡ 2 → ⊥) → Witness now (lits steps ++ (l ∷ [])) k
      witness_push k lt ne =
          ⊎_elim
          (λ e. record { literal = l; on = Contains-append_right (lits steps) (l ∷ []) l (0, omega arith, refl); names = sym e; true_there = bit_true values l within })
          (λ other.
          let w = t.witness k (omega (arith, length-set values (l / 2) (bit l))) (λ z. ne (kept_value k other ∙ z)) in
          let value : written now (w.literal / 2) ≡ written values (w.literal / 2) = ap (λ x. eqb x 1) (kept_value (w.literal / 2) (λ e. other (sym w.names ∙ e))) in
          record {
            literal = w.literal;
            on = Contains-append_left (lits steps) (l ∷ []) w.literal w.on;
            names = w.names;
            true_there = lit_same (written now) (written values) w.literal value ∙ w.true_there;
          })
          (cases_eq k (l / 2))

      small_push : (k : ℕ) → get_or now k 0 ≤ 2
      small_push k =
          ⊎_elim
          (λ e. let v : get_or now (l / 2) 0 ≡ bit l = get_or-set_same values (l / 2) (bit l) 0 within in subst (λ i. get_or now i 0 ≤ 2) (sym e) (omega arith))
          (λ ne. let s = t.small k in omega (arith, kept_value k ne))
          (cases_eq k (l / 2))

      named_push : allotted (length values) (lits steps ++ (l ∷ [])) ≡ true
      named_push =
          every_more (λ x. ltb x (2 * length values)) (lits steps) l ∙ and_from (allotted (length values) (lits steps)) (ltb l (2 * length values)) t.named (lt-ltb l (2 * length values) h.0)

      pub trail_push : Founded X (lits steps) s → Trail X now (steps ++ (s ∷ []))
      trail_push founded =
          let size = length-set values (l / 2) (bit l) in
          let ls = lits_more steps s in
          let c = t.counted in
          record {
            small = small_push;
            witness = λ k lt ne. subst (λ x. Witness now x k) (sym ls) (witness_push k lt ne);
            named = subst (λ x. allotted (length now) x ≡ true) (sym ls) (subst (λ n. allotted n (lits steps ++ (l ∷ [])) ≡ true) (sym size) named_push);
            counted = omega (arith, length-append steps (s ∷ []), opens_shut values (l / 2) within (bit l) h.1 (λ e. omega arith));
            sound = sound_push [] steps s t.sound founded;
          }
