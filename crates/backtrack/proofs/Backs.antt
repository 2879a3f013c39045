-- A step taken back from the trail.
use Rattle.std.proofs.Common.{◌≡◌, ℕ, ◌*◌, ◌/◌, ◌<◌, Bool, true, false, eqb, ltb, List, [], ◌∷◌, ◌++◌, length, get_or, set, sym, refl, ap, ◌∙◌, subst, ⊎_elim, arith, append_assoc, length-append, length-set, get_or-set_other, get_or-set_same}
use Rattle.std.specs.List.{Contains}
use Rattle.std.proofs.lemmas.Bool.{cases_eq, and_parts, and_from, ltb-true, not_from_false, false_from_ne_true}
use Rattle.std.proofs.lemmas.List.Elements.{Contains-append_cases}
use Rattle.chooser.specs.Ways.{lit, every, allotted, written}
use Rattle.rows.specs.Lits.{opposite}
use Rattle.rows.proofs.Lits.{lit_same, lit_opposite}
use Rattle.backtrack.specs.Values.{Opened}
use Rattle.backtrack.specs.Trail.{lit_of, lits, Leads, Dead, Founded, Witness, Trail, Undone}
use Rattle.backtrack.specs.declared.trail.Step.{Step}
use Rattle.backtrack.specs.declared.trail.Step.TheVariants.{Decided, Follows}
use Rattle.backtrack.proofs.Values.{opens_open}
use Rattle.backtrack.proofs.Trails.{lits_more, every_more, sound_pop}

module _ (X : (ℕ → Bool) → Bool) where
  module _ (values : List ℕ) (steps : List Step) (s : Step) (t : Trail X values (steps ++ (s ∷ []))) where
    abbrev last : ℕ
    last = lit_of s

    named : allotted (length values) (lits steps ++ (last ∷ [])) ≡ true
    named = subst (λ x. allotted (length values) x ≡ true) (lits_more steps s) t.named

    parts : (allotted (length values) (lits steps) ≡ true) × (ltb last (2 * length values) ≡ true)
    parts = and_parts (allotted (length values) (lits steps)) (ltb last (2 * length values)) (sym (every_more (λ x. ltb x (2 * length values)) (lits steps) last) ∙ named)

    within : last / 2 < length values
    within = omega (arith, ltb-true last (2 * length values) parts.1)

    abbrev back : List ℕ
    back = set values (last / 2) 2

    cleared : get_or back (last / 2) 0 ≡ 2
    cleared = get_or-set_same values (last / 2) 2 0 within

    kept_back : (k : ℕ) → (k ≡ last / 2 → ⊥) → get_or back k 0 ≡ get_or values k 0
    kept_back k ne = get_or-set_other values (last / 2) k 2 0 ne

    witness_pop : (k : ℕ) → k < length back → (get_or back k 0 ≡ 2 → ⊥) → Witness back (lits steps) k
    witness_pop k lt ne =
        let other : k ≡ last / 2 → ⊥ = λ e. ne (ap (λ i. get_or back i 0) e ∙ cleared) in
        let w = t.witness k (omega (arith, length-set values (last / 2) 2)) (λ z. ne (kept_back k other ∙ z)) in
        let value : written back (w.literal / 2) ≡ written values (w.literal / 2) = ap (λ x. eqb x 1) (kept_back (w.literal / 2) (λ e. other (sym w.names ∙ e))) in
        record {
          literal = w.literal;
          on = ⊎_elim (λ a. a) (λ b. absurd (other (sym w.names ∙ ap (λ x. x / 2) (only b)))) (Contains-append_cases (lits steps) (last ∷ []) w.literal (subst (λ x. Contains x w.literal) (lits_more steps s) w.on));
          names = w.names;
          true_there = lit_same (written back) (written values) w.literal value ∙ w.true_there;
        }
      where
        only : {x : ℕ} → Contains (last ∷ []) x → x ≡ last
        only {x} b = let z : b.0 ≡ 0 = let lt = b.1 in omega arith in sym (sym (ap (λ k. get_or (last ∷ []) k x) z) ∙ b.2)

    pub trail_pop : Trail X back steps
    trail_pop =
        let c = t.counted in
        record {
          small = λ k. ⊎_elim (λ e. omega (arith, subst (λ i. get_or back i 0 ≡ 2) (sym e) cleared)) (λ ne. let h = t.small k in omega (arith, kept_back k ne)) (cases_eq k (last / 2));
          witness = witness_pop;
          named = subst (λ n. allotted n (lits steps) ≡ true) (sym (length-set values (last / 2) 2)) parts.0;
          counted = omega (arith, length-append steps (s ∷ []), opens_open values (last / 2) within, length-set values (last / 2) 2);
          sound = (sound_pop X [] steps s t.sound).0;
        }

    pub opened_back : Opened back last
    opened_back = (omega (arith, ltb-true last (2 * length values) parts.1, length-set values (last / 2) 2), cleared)

    pub founded_back : Founded X (lits steps) s
    founded_back = (sound_pop X [] steps s t.sound).1

  -- where the trail is dead with a literal, it is dead without it if it follows, and else the opposite follows
  pub dead_before : (ls : List ℕ) (l : ℕ) → Leads X ls l → Dead X (ls ++ (l ∷ [])) → Dead X ls
  dead_before ls l leads dead p x along = dead p x (every_more (lit p) ls l ∙ and_from (every (lit p) ls) (lit p l) along (leads p x along))

  pub dead_flip : (ls : List ℕ) (l : ℕ) → Dead X (ls ++ (l ∷ [])) → Leads X ls (opposite l)
  dead_flip ls l dead p x along =
      let off : lit p l ≡ false = false_from_ne_true (lit p l) (λ on. dead p x (every_more (lit p) ls l ∙ and_from (every (lit p) ls) (lit p l) along on)) in
      lit_opposite l p ∙ not_from_false (lit p l) off

-- a step that was popped
module _ (X : (ℕ → Bool) → Bool) (values : List ℕ) (was steps : List Step) (s : Step) (l : ℕ) (items : was ≡ steps ++ (s ∷ [])) (is : l ≡ lit_of s)
    (t : Trail X values was) (dead : Dead X (lits was)) where
  here : Trail X values (steps ++ (s ∷ []))
  here = subst (Trail X values) items t

  dead_here : Dead X (lits steps ++ (lit_of s ∷ []))
  dead_here = subst (Dead X) (ap lits items ∙ lits_more steps s) dead

  pub popped_goes : Trail X (set values (l / 2) 2) steps
  popped_goes = subst (λ k. Trail X (set values (k / 2) 2) steps) (sym is) (trail_pop X values steps s here)

  follows_leads : (before : List ℕ) (r : Step) → ((x : ℕ) → r ≡ Decided x → ⊥) → Founded X before r → Leads X before (lit_of r)
  follows_leads before (Decided k) stays f = absurd (stays k refl)
  follows_leads before (Follows k) stays f = f

  pub popped_dead : ((x : ℕ) → s ≡ Decided x → ⊥) → Dead X (lits steps)
  popped_dead stays = dead_before X (lits steps) (lit_of s) (follows_leads (lits steps) s stays (founded_back X values steps s here)) dead_here

  pub popped_undone : (k : ℕ) → s ≡ Decided k → (old behind : List Step) → old ≡ was ++ behind → Undone X old (set values (l / 2) 2) steps l
  popped_undone k e old behind grown =
      let known : s ≡ Decided l = e ∙ ap Decided (sym (is ∙ ap lit_of e)) in
      record {
        goes = popped_goes;
        opened = subst (λ j. Opened (set values (j / 2) 2) j) (sym is) (opened_back X values steps s here);
        flips = subst (λ j. Leads X (lits steps) (opposite j)) (sym is) (dead_flip X (lits steps) (lit_of s) dead_here);
        behind = behind;
        was = grown ∙ ap (λ z. z ++ behind) items ∙ append_assoc steps (s ∷ []) behind ∙ ap (λ z. steps ++ (z ∷ behind)) known;
      }

pub named_popped : (v : ℕ) (was steps : List Step) (s : Step) → was ≡ steps ++ (s ∷ []) → allotted v (lits was) ≡ true → allotted v (lits steps) ≡ true
named_popped v was steps s items e =
    (and_parts (allotted v (lits steps)) (ltb (lit_of s) (2 * v))
    (sym (every_more (λ x. ltb x (2 * v)) (lits steps) (lit_of s)) ∙ ap (allotted v) (sym (lits_more steps s)) ∙ ap (λ z. allotted v (lits z)) (sym items) ∙ e)).0
