-- Each turn of the search leaves less: a decision and a jump raise the trail's weight, and a restart spends a unit of fuel.
use Rattle.std.proofs.Common.{◌≡◌, ℕ, ◌+◌, ◌-◌, ◌*◌, ◌<◌, ◌≤◌, ◌≢◌, Bool, true, false, List, [], ◌∷◌, ◌++◌, length, get_or, take, drop, sym, refl, ap, ◌∙◌, subst, arith, take-append-drop}
use Rattle.std.proofs.lemmas.List.{length-take-le, length-drop, map-append, drop_more}
use native.Mathlib.Nat.{add-mul, one-mul}
use Rattle.chooser.specs.Ways.{lit, some}
use Rattle.rows.specs.Lits.{Turned}
use Rattle.weight.specs.Weight.{weight, digits}
use Rattle.weight.proofs.Rises.{bounded, pushes, jumps}
use Rattle.implied.specs.Implied.{allowed}
use Rattle.trail.specs.declared.step.Reason.{Reason}
use Rattle.trail.specs.declared.step.Reason.TheVariants.{Decision, Known, Clause}
use Rattle.trail.specs.declared.step.Step.{Step}
use Rattle.trail.specs.declared.search.Search.{Search}
use Rattle.trail.specs.Values.{Free, value_at}
use Rattle.trail.specs.Trails.{step_at, literal_at, Follows, Grew, digit, digits_of}
use Rattle.trail.specs.Steps.{Placed, Pushed}
use Rattle.trail.proofs.Sounds.{digits_more, digits_long, digit_some, step_taken}
use Rattle.activity.specs.Cuts.{Kept}
use Rattle.analyze.specs.Analysis.{Place}
use Rattle.cdcl_steps.specs.Search.{Jumped, top, measure}

digits_good : (steps : List Step) → digits (digits_of steps) ≡ true
digits_good [] = refl
digits_good (s ∷ ss) = digits_first s.reason (digits_of ss) (digits_good ss)
  where
    digits_first : (r : Reason) (ds : List ℕ) → digits ds ≡ true → digits (digit r ∷ ds) ≡ true
    digits_first Decision ds e = e
    digits_first Known ds e = e
    digits_first (Clause c) ds e = e

digit_follows : (r : Reason) → r ≢ Decision → digit r ≡ 2
digit_follows Decision ne = absurd (ne refl)
digit_follows Known ne = refl
digit_follows (Clause c) ne = refl

-- a trail of 4,096 steps at most
module _ (steps : List Step) (room : length steps ≤ 4096) where
  pub under : weight 4096 (digits_of steps) < top
  unfolding top
  under = let size = digits_long steps in bounded 4096 (digits_of steps) (omega arith) (digits_good steps)

  pub push_rises : (st : Step) → length steps < 4096 → weight 4096 (digits_of steps) < weight 4096 (digits_of (steps ++ st ∷ []))
  push_rises st lt =
      let size = digits_long steps in
      rw (digits_more steps st) (pushes 4096 (digit st.reason) (digits_of steps) (omega arith) (digit_some st.reason))

  -- the steps before a decision, the decision, and the steps behind it
  module _ (k : ℕ) (lt : k < length steps) (one : (step_at steps k).reason ≡ Decision) where
    apart : digits_of steps ≡ digits_of (take k steps) ++ 1 ∷ digits_of (drop (k + 1) steps)
    apart =
        ap digits_of (sym (take-append-drop k steps))
        ∙ map-append (λ (z : Step). digit z.reason) (take k steps) (drop k steps)
        ∙ ap (λ z. digits_of (take k steps) ++ digits_of z) (drop_more steps k (record { literal = 0; level = 0; reason = Known }) lt)
        ∙ ap (λ z. digits_of (take k steps) ++ digit z ∷ digits_of (drop (k + 1) steps)) one

    pub jump_rises : (st : Step) → st.reason ≢ Decision → weight 4096 (digits_of steps) < weight 4096 (digits_of (take k steps ++ st ∷ []))
    jump_rises st follows =
        let front : length (digits_of (take k steps)) ≡ k = digits_long (take k steps) ∙ length-take-le k steps (omega arith) in
        let behind : length (digits_of (drop (k + 1) steps)) ≡ length steps - (k + 1) = digits_long (drop (k + 1) steps) ∙ length-drop (k + 1) steps in
        let up = jumps 4096 (digits_of (take k steps)) (digits_of (drop (k + 1) steps)) (omega arith) (digits_good (drop (k + 1) steps)) in
        let after : digits_of (take k steps ++ st ∷ []) ≡ digits_of (take k steps) ++ 2 ∷ [] = digits_more (take k steps) st ∙ ap (λ d. digits_of (take k steps) ++ d ∷ []) (digit_follows st.reason follows) in
        subst (λ a. a < weight 4096 (digits_of (take k steps ++ st ∷ []))) (sym (ap (weight 4096) apart)) (subst (λ b. weight 4096 (digits_of (take k steps) ++ 1 ∷ digits_of (drop (k + 1) steps)) < weight 4096 b) (sym after) up)

less : (f a b : ℕ) → a < b → b < top → f * top + (top - b) < f * top + (top - a)
less f a b lt le = omega arith

long : (s : Search) → length s.trail.steps.items ≤ 4096
long s = let r = s.steady.room in omega arith

-- from a trail, by one that grew, to one that weighs more
module _ (t u v : Search) (g : Grew t.trail.steps.items u.trail.steps.items) where
  rise_less : (f : ℕ) → weight 4096 (digits_of u.trail.steps.items) < weight 4096 (digits_of v.trail.steps.items) → measure f v.trail.steps.items < measure f t.trail.steps.items
  rise_less f up =
      let grown = g.up in
      less f (weight 4096 (digits_of t.trail.steps.items)) (weight 4096 (digits_of v.trail.steps.items)) (omega arith) (under v.trail.steps.items (long v))

  pub decided_less : (f l : ℕ) → Placed u v l Decision → measure f v.trail.steps.items < measure f t.trail.steps.items
  decided_less f l p =
      rise_less f (subst (λ z. weight 4096 (digits_of u.trail.steps.items) < weight 4096 (digits_of z)) (sym p.steps)
      (push_rises u.trail.steps.items (long u) (record { literal = l; level = p.level; reason = Decision }) p.within))

  pub jumped_less : (f : ℕ) → Jumped u v → measure f v.trail.steps.items < measure f t.trail.steps.items
  jumped_less f j =
      rise_less f (subst (λ z. weight 4096 (digits_of u.trail.steps.items) < weight 4096 (digits_of z)) (sym j.steps)
      (jump_rises u.trail.steps.items (long u) j.k j.before j.decision j.step j.forced))

pub restart_less : (t v : Search) (f h : ℕ) → 0 < f → h ≡ f - 1 → measure h v.trail.steps.items < measure f t.trail.steps.items
restart_less t v f h some is =
    let low = under t.trail.steps.items (long t) in
    let split : f ≡ h + 1 = omega arith in
    let whole : f * top ≡ h * top + top = ap (λ x. x * top) split ∙ add-mul h 1 top ∙ ap (λ x. h * top + x) (one-mul top) in
    omega arith

-- the opposite of a literal that was taken back is of an open variable
turned_free : (t u : Search) (k j l : ℕ) → Kept t u k → k ≤ j → j < length t.trail.steps.items → Turned (literal_at t.trail.steps.items j) l → Free u.trail.values l
turned_free t u k j l kept le lt turn = ap (value_at u.trail.values) turn.0 ∙ kept.freed j le lt

pub placed_from : (t u : Search) (l : ℕ) (reason : Reason) (r : Bool) → Pushed t u l reason r → Free t.trail.values l → (r ≡ true) × Placed t u l reason
placed_from t u l reason true p free = (refl, p)
placed_from t u l reason false p free = absurd (p.1 free)

-- what followed behind the first k steps follows behind them where the trail ends there
pub follows_cut : (row row' : List ℕ) (steps steps' : List Step) (k l : ℕ) → row' ≡ row → steps' ≡ take k steps → k < length steps → Follows (allowed row) steps k l → Follows (allowed row') steps' (length steps') l
follows_cut row row' steps steps' k l rows is lt h p x along =
    let long : length steps' ≡ k = ap (λ z. length z) is ∙ length-take-le k steps (omega arith) in
    h p (ap (λ r. allowed r p) (sym rows) ∙ x)
    (λ j less. ap (λ (z : Step). lit p z.literal) (sym (ap (λ z. step_at z j) is ∙ step_taken steps k j less)) ∙ along j (omega arith))

-- cut at the place that was drawn, and pushed to
module _ (X : (ℕ → Bool) → Bool) (clause : List ℕ) (t u w v : Search) (k : ℕ) (reason : Reason) (r : Bool)
    (at : Place X t.trail.steps.items clause k) (kept : Kept t u k) (same : w.trail ≡ u.trail) (pushed : Pushed w v (get_or clause 0 0) reason r) (follows : reason ≢ Decision) where
  put : (r ≡ true) × Placed w v (get_or clause 0 0) reason
  put =
      let z = at.first in
      placed_from w v (get_or clause 0 0) reason r pushed (subst (λ s. Free s.values (get_or clause 0 0)) (sym same) (turned_free t u k z.0 (get_or clause 0 0) kept z.1 z.2 z.3))

  pub placed : Placed w v (get_or clause 0 0) reason
  placed = put.1
