-- A sound trail stays sound when a literal is put on it or taken back, and what its values show.
use Rattle.std.proofs.Common.{◌≡◌, ℕ, ◌+◌, ◌-◌, ◌/◌, ◌%◌, ◌*◌, ◌<◌, Bool, true, false, List, [], ◌∷◌, ◌++◌, length, get_or, take, set, replicate, ◌≢◌, sym, refl, ap, ◌∙◌, subst, ⊎_elim, arith, length-set, length-append, get_or-set_other, get_or-set_same}
use Rattle.std.proofs.lemmas.Bool.{cases_eq, cases_lt}
use Rattle.std.proofs.lemmas.List.{get_or_append_left, get_or-take, length-take-le, length-replicate, map-append, length-map, get_or-replicate}
use Rattle.std.proofs.Math.Seq.{get_or-append_seam}
use Rattle.chooser.specs.Ways.{lit}
use Rattle.weight.proofs.Rises.{pushes}
use Rattle.rows.specs.Lits.{Turned}
use Rattle.implied.proofs.Literals.{lit_off, turned_back}
use Rattle.trail.specs.declared.step.Value.{Value}
use Rattle.trail.specs.declared.step.Value.TheVariants.{False, Open}
use Rattle.trail.specs.declared.step.Reason.{Reason}
use Rattle.trail.specs.declared.step.Reason.TheVariants.{Decision, Known, Clause}
use Rattle.trail.specs.declared.step.Step.{Step}
use Rattle.trail.specs.Values.{value_at, making, Holds, Refuted, Free}
use Rattle.trail.specs.Trails.{step_at, literal_at, Along, Follows, Sound, Grew, digit, digits_of}
use Rattle.trail.proofs.Values.{making_closed, making_not_open, making_other, making_parity, opens_most, opens_set, opens_less}

-- steps that agree below i are true along the same ways
along_same : (p : ℕ → Bool) (a b : List Step) (i : ℕ) → ((j : ℕ) → j < i → step_at b j ≡ step_at a j) → Along p b i → Along p a i
along_same p a b i same h j lt = ap (λ (s : Step). lit p s.literal) (sym (same j lt)) ∙ h j lt

pub step_old : (steps : List Step) (st : Step) (j : ℕ) → j < length steps → step_at (steps ++ st ∷ []) j ≡ step_at steps j
step_old steps st j lt = get_or_append_left steps (st ∷ []) (record { literal = 0; level = 0; reason = Known }) j lt

pub step_new : (steps : List Step) (st : Step) → step_at (steps ++ st ∷ []) (length steps) ≡ st
step_new steps st = get_or-append_seam steps st [] (record { literal = 0; level = 0; reason = Known })

pub step_taken : (steps : List Step) (k j : ℕ) → j < k → step_at (take k steps) j ≡ step_at steps j
step_taken steps k j lt = get_or-take k steps j (record { literal = 0; level = 0; reason = Known }) lt

module _ (X : (ℕ → Bool) → Bool) (values : List Value) (positions : List ℕ) (steps : List Step) (s : Sound X values positions steps) where
  module _ (l level : ℕ) (reason : Reason) (small : l / 2 < 4096) (free : Free values l) (marked : (reason ≢ Decision) → Follows X steps (length steps) l) where
    pub push_room : length steps < 4096
    push_room =
        let wide = s.wide in
        let r = s.room in
        let o = opens_less values (l / 2) (omega arith) (making l) free (making_closed l) in
        omega arith

    abbrev st : Step
    st = record { literal = l; level = level; reason = reason }

    abbrev more : List Step
    more = steps ++ st ∷ []

    here : step_at more (length steps) ≡ st
    here = step_new steps st

    pub sound_push : Sound X (set values (l / 2) (making l)) (set positions (l / 2) (length steps)) (steps ++ record { literal = l; level = level; reason = reason } ∷ [])
    sound_push =
        let wide = s.wide in
        let placed = s.placed in
        let long : length more ≡ length steps + 1 = length-append steps (st ∷ []) in
        record {
          wide = length-set values (l / 2) (making l) ∙ wide;
          placed = length-set positions (l / 2) (length steps) ∙ placed;
          grounded = λ j less no-decision p x along. ⊎_elim
              (λ e. let at : step_at more j ≡ st = ap (step_at more) e ∙ here in
              ap (λ (z : Step). lit p z.literal) at
              ∙ marked (λ d. no-decision (ap (λ (z : Step). z.reason) at ∙ d)) p x (subst (Along p steps) e (along_same p steps more j (λ i lt. step_old steps st i (omega arith)) along)))
              (λ ne. let in-d : j < length steps = omega arith in
              let at : step_at more j ≡ step_at steps j = step_old steps st j in-d in
              ap (λ (z : Step). lit p z.literal) at
              ∙ s.grounded j in-d (λ d. no-decision (ap (λ (z : Step). z.reason) at ∙ d)) p x (along_same p steps more j (λ i lt. step_old steps st i (omega arith)) along))
              (cases_eq j (length steps));
          shown = λ m h. ⊎_elim
              (λ e. let value : value_at (set values (l / 2) (making l)) (m / 2) ≡ making l = ap (value_at (set values (l / 2) (making l))) e ∙ get_or-set_same values (l / 2) (making l) False (omega arith) in
              let parity = making_parity l m (sym value ∙ h.1) in
              let same : m ≡ l = omega arith in
              let place : get_or (set positions (l / 2) (length steps)) (m / 2) 0 ≡ length steps = ap (λ i. get_or (set positions (l / 2) (length steps)) i 0) e ∙ get_or-set_same positions (l / 2) (length steps) 0 (omega arith) in
              (omega arith, ap (literal_at more) place ∙ ap (λ (z : Step). z.literal) here ∙ sym same))
              (λ ne. let within = h.0 in
              let size = length-set values (l / 2) (making l) in
              let w = s.shown m (omega arith, sym (get_or-set_other values (l / 2) (m / 2) (making l) False ne) ∙ h.1) in
              let less : get_or positions (m / 2) 0 < length steps = w.0 in
              let place : get_or (set positions (l / 2) (length steps)) (m / 2) 0 ≡ get_or positions (m / 2) 0 = get_or-set_other positions (l / 2) (m / 2) (length steps) 0 ne in
              (omega arith, ap (literal_at more) place ∙ ap (λ (z : Step). z.literal) (step_old steps st (get_or positions (m / 2) 0) less) ∙ w.1))
              (cases_eq (m / 2) (l / 2));
          named = λ j less. ⊎_elim
              (λ e. let at : literal_at more j ≡ l = ap (literal_at more) e ∙ ap (λ (z : Step). z.literal) here in omega arith)
              (λ ne. let in-d : j < length steps = omega arith in
              let at : literal_at more j ≡ literal_at steps j = ap (λ (z : Step). z.literal) (step_old steps st j in-d) in
              let old = s.named j in-d in omega arith)
              (cases_eq j (length steps));
          room = let r = s.room in let o = opens_less values (l / 2) (omega arith) (making l) free (making_closed l) in omega arith;
        }

  module _ (some : 0 < length steps) where
    abbrev top : ℕ
    top = literal_at steps (length steps - 1)

    pub sound_pop : Sound X (set values (literal_at steps (length steps - 1) / 2) Open) positions (take (length steps - 1) steps)
    sound_pop =
        let wide = s.wide in
        let r = s.room in
        let less = take (length steps - 1) steps in
        let long : length less ≡ length steps - 1 = length-take-le (length steps - 1) steps (omega arith) in
        let name = s.named (length steps - 1) (omega arith) in
        let same : (i : ℕ) → i < length steps - 1 → step_at less i ≡ step_at steps i = λ i lt. step_taken steps (length steps - 1) i lt in
        record {
          wide = length-set values (top / 2) Open ∙ wide;
          placed = s.placed;
          grounded = λ j lt no-decision p x along.
              let at = same j (omega arith) in
              ap (λ (z : Step). lit p z.literal) at
              ∙ s.grounded j (omega arith) (λ d. no-decision (ap (λ (z : Step). z.reason) at ∙ d)) p x (along_same p steps less j (λ i le. same i (omega arith)) along);
          shown = λ m h. ⊎_elim
              (λ e. let value : value_at (set values (top / 2) Open) (m / 2) ≡ Open = ap (value_at (set values (top / 2) Open)) e ∙ get_or-set_same values (top / 2) Open False (omega arith) in
              absurd (making_not_open m (sym h.1 ∙ value)))
              (λ ne. let within = h.0 in
              let size = length-set values (top / 2) Open in
              let w = s.shown m (omega arith, sym (get_or-set_other values (top / 2) (m / 2) Open False ne) ∙ h.1) in
              let lt : get_or positions (m / 2) 0 < length steps = w.0 in
              let apart : get_or positions (m / 2) 0 ≡ length steps - 1 → ⊥ = λ q. let here : top ≡ m = ap (literal_at steps) (sym q) ∙ w.1 in let half : m / 2 ≡ top / 2 = omega arith in ne half in
              let before : get_or positions (m / 2) 0 < length steps - 1 = ⊎_elim (λ q. absurd (apart q)) (λ q. omega arith) (cases_eq (get_or positions (m / 2) 0) (length steps - 1)) in
              (omega arith, ap (λ (z : Step). z.literal) (same (get_or positions (m / 2) 0) before) ∙ w.1))
              (cases_eq (m / 2) (top / 2));
          named = λ j lt. let at : literal_at less j ≡ literal_at steps j = ap (λ (z : Step). z.literal) (same j (omega arith)) in let old = s.named j (omega arith) in omega arith;
          room = let o = opens_set values (top / 2) (omega arith) Open in omega arith;
        }

  -- the opposite of a literal that is false stands on the trail
  refuted_by : (l : ℕ) → Refuted values l → (j : ℕ) × (j < length steps) × Turned l (literal_at steps j)
  refuted_by l f =
      let r = 2 * (l / 2) + (1 - l % 2) in
      let half : r / 2 ≡ l / 2 = omega arith in
      let ne : r ≡ l → ⊥ = λ e. omega arith in
      let within : l / 2 < length values = f.0 in
      let w = s.shown r (omega arith, ap (value_at values) half ∙ f.1 ∙ sym (making_other l r half ne)) in
      (get_or positions (r / 2) 0, w.0, (ap (λ z. z / 2) w.1 ∙ half, λ e. ne (sym w.1 ∙ e)))

  pub refuted_off : (p : ℕ → Bool) (l : ℕ) → Along p steps (length steps) → Refuted values l → lit p l ≡ false
  refuted_off p l along f =
      let w = refuted_by l f in
      lit_off p l (literal_at steps w.0) (turned_back l (literal_at steps w.0) w.2) (along w.0 w.1)

  -- and a literal that is true stands on it
  pub held_by : (l : ℕ) → Holds values l → (j : ℕ) × (j < length steps) × (literal_at steps j ≡ l)
  held_by l on = let w = s.shown l on in (get_or positions (l / 2) 0, w.0, w.1)

  -- what is sound over the ways that X allows is sound over fewer ways
  pub sound_fewer : (Y : (ℕ → Bool) → Bool) → ((p : ℕ → Bool) → Y p ≡ true → X p ≡ true) → Sound Y values positions steps
  sound_fewer Y fewer = record { wide = s.wide; placed = s.placed; grounded = λ j lt no-decision p y. s.grounded j lt no-decision p (fewer p y); shown = s.shown; named = s.named; room = s.room }

open_one : (n m : ℕ) → m < n → get_or (replicate n Open) m False ≡ Open
open_one n m lt = get_or-replicate n m Open False lt

-- a trail with no literal
pub sound_none : (X : (ℕ → Bool) → Bool) (positions : List ℕ) (steps : List Step) → length positions ≡ 4096 → steps ≡ [] → Sound X (replicate 4096 Open) positions steps
sound_none X positions steps placed none =
    let long : length steps ≡ 0 = ap (λ z. length z) none in
    let wide : length (replicate 4096 Open) ≡ 4096 = length-replicate 4096 Open in
    let most = opens_most (replicate 4096 Open) in
    record {
      wide = wide;
      placed = placed;
      grounded = λ j lt. let z : ⊥ = omega arith in absurd z;
      shown = λ m h. let within = h.0 in absurd (making_not_open m (sym h.1 ∙ open_one 4096 (m / 2) (omega arith)));
      named = λ j lt. let z : ⊥ = omega arith in absurd z;
      room = omega arith;
    }

-- how a trail grows

pub digits_more : (steps : List Step) (st : Step) → digits_of (steps ++ st ∷ []) ≡ digits_of steps ++ digit st.reason ∷ []
digits_more steps st = map-append (λ (z : Step). digit z.reason) steps (st ∷ [])

pub digits_long : (steps : List Step) → length (digits_of steps) ≡ length steps
digits_long steps = length-map steps (λ (z : Step). digit z.reason)

pub digit_some : (r : Reason) → 0 < digit r
digit_some Decision = omega arith
digit_some Known = omega arith
digit_some (Clause c) = omega arith

pub grew_none : (steps : List Step) → Grew steps steps
grew_none steps = record { more = omega arith; same = λ k lt. refl; forced = λ j le lt. let z : ⊥ = omega arith in absurd z; up = omega arith }

pub grew_push : (steps : List Step) (st : Step) → length steps < 4096 → (st.reason ≢ Decision) → Grew steps (steps ++ st ∷ [])
grew_push steps st room no-decision =
    let long : length (steps ++ st ∷ []) ≡ length steps + 1 = length-append steps (st ∷ []) in
    let size = digits_long steps in
    let rises = pushes 4096 (digit st.reason) (digits_of steps) (omega arith) (digit_some st.reason) in
    record {
      more = omega arith;
      same = λ j lt. step_old steps st j lt;
      forced = λ j le lt d. let e : j ≡ length steps = omega arith in no-decision (sym (ap (λ (z : Step). z.reason) (ap (step_at (steps ++ st ∷ [])) e ∙ step_new steps st)) ∙ d);
      up = rw (digits_more steps st) (omega arith);
    }

pub grew_trans : (a b c : List Step) → Grew a b → Grew b c → Grew a c
grew_trans a b c g h =
    let x = g.more in
    let y = h.more in
    let u = g.up in
    let v = h.up in
    record {
      more = omega arith;
      same = λ k lt. h.same k (omega arith) ∙ g.same k lt;
      forced = λ j le lt. ⊎_elim (λ less. λ d. g.forced j le less (sym (ap (λ (z : Step). z.reason) (h.same j less)) ∙ d)) (λ ge. h.forced j ge lt) (cases_lt j (length b));
      up = omega arith;
    }
