-- What each end of a round gives: that it closes the search as the relation says, or what then comes counts for the whole.
-- Assumes nothing.
use Rattle.std.proofs.Common.{◌≡◌, ℕ, suc, ◌+◌, ◌<◌, ◌≤◌, Bool, false, ◌&&◌, ◌⊎◌, List, [], ◌∷◌, length, Option, sym, refl, ap, ◌∙◌, subst, inl, inr, arith}
use mathlib.Core.Option.{none}
use Rattle.std.proofs.lemmas.Bool.{false≢true, cases_lt, le-leb, cond-true}
use Rattle.chooser.specs.Ways.{lit, every}
use Rattle.chooser.specs.Meaning.{Meaning, Same}
use Rattle.chooser.specs.Faults.{fault_number}
use Rattle.chooser.specs.declared.Fault.{Fault}
use Rattle.syntax.specs.Typing.{cases_of}
use Rattle.syntax.specs.Problems.{Problem, sig_of}
use Rattle.judging.specs.Paths.{Path}
use Rattle.finder.specs.Levels.{measures}
use Rattle.finder.specs.Tables.{Table, opening, width, cases_at, opened_at}
use Rattle.finder.specs.Ways.{Way, decides_all}
use Rattle.finder.specs.Clauses.{all_met, opening_clauses, opening_entries, Extended}
use Rattle.finder.specs.Conflicts.{Conflict, conflict, conflict_clause}
use Rattle.finder.specs.Asking.{switches, asked, Picks, Refuses}
use Rattle.finder.specs.Findings.{out_of_steps, false_goal, waiting_goal, all_true}
use Rattle.places.specs.Places.{at, births}
use Rattle.places.proofs.Openings.{opening_places}
use Rattle.histories.specs.Rounds.{Outcome, model, none_within, never, foreign, spent_rounds, spent_steps, spent_unknowns, spent_chooser, closes, one_opened, one_recorded, finds, most_unknowns, Runs, none_found, never_found, foreign_found, steps_spent, conflict_recorded, conflict_too_long, unknown_opened, unknowns_spent, chooser_spent, model_found}
use Rattle.histories.specs.Histories.{is_model}
use Rattle.answers.specs.Told.{outcome_of}
use Rattle.answers.specs.declared.answer.Outcome.{Outcome as Told}
use Rattle.answers.specs.declared.answer.Outcome.TheVariants.{Model, None, Never, Foreign, SpentRounds, SpentSteps, SpentUnknowns, SpentChooser}
use Rattle.unknowns.specs.Listing.{row, Stands, DecidesAs}
use Rattle.unknowns.specs.Opening.{Opens}
use Rattle.unknowns.specs.declared.table.Table.{Table as Code}
use Rattle.unknowns.specs.declared.table.Case.{Case}
use Rattle.recording.specs.Opening.{allot_refusal}
use Rattle.recording.proofs.Clauses.{no_fault}
use Rattle.rounds.specs.Turns.{known, GoesOn, Closes}
use Rattle.rounds.specs.Steps.{Picked, LeftUnder}

pub no_model : (A : Way → Type 0) (o : Outcome) → is_model o ≡ false → (w : Way) → o ≡ model w → A w
no_model A o f w e = absurd (false≢true (sym f ∙ ap is_model e))

-- what asking leaves
pub same_stands : {p : Problem} {t : Code} {T : Table} {M M' : Meaning} → Same M M' → Stands p t T M.count → Stands p t T M'.count
same_stands {p} {t} {T} s h = subst (Stands p t T) (sym s.counts) h

pub same_same : {M M₁ M₂ : Meaning} → Same M M₁ → Same M₁ M₂ → Same M M₂
same_same s r =
    record {
      counts = r.counts ∙ s.counts;
      rooms = r.rooms ∙ s.rooms;
      leaves = r.leaves ∙ s.leaves;
      allows = λ w. r.allows w ∙ s.allows w;
    }

extended_from : {M₀ M M' : Meaning} (m : ℕ) (cs : List (List ℕ)) → Same M₀ M → Extended M M' m cs → Extended M₀ M' m cs
extended_from m cs s x =
    let a = s.counts in
    let b = s.rooms in
    let c = s.leaves in
    let d = x.counts in
    let e = x.rooms in
    let f = x.shrinks in
    let h = x.spends in
    record {
      counts = omega (arith, a, d);
      rooms = omega (arith, b, e);
      shrinks = omega (arith, c, f);
      spends = omega (arith, c, h);
      allows = λ w. x.allows w ∙ ap (λ v. v && all_met w cs) (s.allows w);
    }

pub picks_before : {M M₁ : Meaning} {ls : List ℕ} {w : Way} → Same M M₁ → Picks M₁ ls w → Picks M ls w
picks_before {w = w} s k = record { allowed = sym (s.allows w) ∙ k.allowed; meets = k.meets }

refuses_before : {M M₁ : Meaning} (ls : List ℕ) → Same M M₁ → Refuses M₁ ls → Refuses M ls
refuses_before ls s r w = ap (λ v. v && every (lit w) ls) (sym (s.allows w)) ∙ r w

module _ {p : Problem} {force : ℕ → Bool} {n steps : ℕ} {T : Table} {R : List Conflict} {t : Code} {M₀ M' : Meaning} {cases : List (Option Case)} where
  -- a round that closes the search and changes nothing, without a model
  closed : (o : Outcome) → is_model o ≡ false → Same M₀ M' → Stands p t T M₀.count
      → ((k : ℕ) → Runs p force n steps (suc k) (known T R) M₀ (closes o) (known T R) M')
      → Closes p force n steps (known T R) M₀ t M' cases (outcome_of o)
  closed o f s h e = record { outcome = o; told = refl; stands = same_stands s h; ends = e; decides = no_model (λ w. DecidesAs p t T w cases) o f }

  pub foreign_turn : (w : Way) → Picks M₀ (asked p (measures p) force n T) w → decides_all p w T ≡ false → Same M₀ M'
      → Stands p t T M₀.count → Closes p force n steps (known T R) M₀ t M' cases Foreign
  foreign_turn w k d s h = closed foreign refl s h (λ i. foreign_found w k d s)

  -- no way is left within the depth: what was asked then, under the switches alone, says whether any is
  pub left_turn : {M : Meaning} (o : Told) → Refuses M₀ (asked p (measures p) force n T) → Same M₀ M → Same M M'
      → Stands p t T M₀.count → LeftUnder M (switches p force) o → Closes p force n steps (known T R) M₀ t M' cases o
  left_turn Model r s s' h l = absurd l
  left_turn None r s s' h (w, k) =
      closed none_within refl (same_same s s') h (λ i. none_found w r (picks_before s k) (same_same s s'))
  left_turn Never r s s' h l =
      closed never refl (same_same s s') h (λ i. never_found r (refuses_before (switches p force) s l) (same_same s s'))
  left_turn Foreign r s s' h l = absurd l
  left_turn SpentRounds r s s' h l = absurd l
  left_turn (SpentSteps g) r s s' h l = absurd l
  left_turn SpentUnknowns r s s' h l = absurd l
  left_turn SpentChooser r s s' h l = absurd l

module _ {p : Problem} {force : ℕ → Bool} {n : ℕ} (steps : ℕ) {T : Table} {R : List Conflict} {t : Code} {M₀ M : Meaning} {w : Way}
    (pk : Picked p force n t T R M₀ M w) where
  pub out_turn : {cases : List (Option Case)} (g : ℕ) → finds p force steps (known T R) w ≡ out_of_steps g
      → Closes p force n steps (known T R) M₀ t M cases (SpentSteps g)
  out_turn g e = closed (spent_steps g) refl pk.same pk.stands (λ k. steps_spent w g pk.goes_by e pk.same)

  pub model_turn : {cases : List (Option Case)} → DecidesAs p t T w cases → finds p force steps (known T R) w ≡ all_true
      → Closes p force n steps (known T R) M₀ t M cases Model
  model_turn {cases} d e =
      record {
        outcome = model w;
        told = refl;
        stands = same_stands pk.same pk.stands;
        ends = λ k. model_found w pk.goes_by e pk.same;
        decides = λ v q. subst (λ u. DecidesAs p t T u cases) (ap way_of q) d;
      }
    where
      way_of : Outcome → Way
      way_of (model v) = v
      way_of none_within = w
      way_of never = w
      way_of foreign = w
      way_of spent_rounds = w
      way_of (spent_steps g) = w
      way_of spent_unknowns = w
      way_of spent_chooser = w

  -- a conflict, by the clause that the code adds
  module _ {g : ℕ} {E : List Path} {ls : List ℕ} (e : finds p force steps (known T R) w ≡ false_goal g E)
      (c : conflict_clause T (conflict p T w g E) ≡ ls) (long : length (conflict p T w g E).choices + 1 ≡ length ls) {M' : Meaning} where
    pub recorded_turn : length ls + 1 ≤ M.left → Extended M M' 0 (ls ∷ []) → GoesOn p force n steps (known T R) M₀ t M' one_recorded
    recorded_turn l x =
        let leaves = pk.same.leaves in
        let before = pk.same.counts in
        let after = x.counts in
        let counted : M₀.count ≡ M'.count = omega (arith, before, after) in
        record {
          now_known = record { table = T; conflicts = conflict p T w g E ∷ R };
          stands = subst (Stands p t T) counted pk.stands;
          more =
              λ k a X'' M'' r.
              conflict_recorded w g E pk.goes_by e (omega (arith, l, long, leaves))
              (subst (λ v. Extended M₀ M' 0 (v ∷ [])) (sym c) (extended_from 0 (ls ∷ []) pk.same x)) r;
        }

    pub too_long_turn : {cases : List (Option Case)} → M.left < length ls + 1 → Same M M' → Closes p force n steps (known T R) M₀ t M' cases SpentChooser
    too_long_turn l s =
        let leaves = pk.same.leaves in
        closed spent_chooser refl (same_same pk.same s) pk.stands
        (λ k. conflict_too_long w g E pk.goes_by e (omega (arith, l, long, leaves)) (same_same pk.same s))

  -- the opening of the unknown at place i
  module _ {g i : ℕ} (e : finds p force steps (known T R) w ≡ waiting_goal g (at T i)) (inside : i < length T) (un : opening T (at T i) ≡ none) where
    type_is : cases_of (sig_of p) (row t i).ty ≡ cases_at p (at T i)
    type_is = ap (cases_of (sig_of p)) (pk.stands.lists.rows i inside).typed

    opened_long : length (opened_at p (at T i) M₀.count T) ≡ t.len + births (cases_of (sig_of p) (row t i).ty)
    opened_long =
        let placed = opening_places p T M₀.count M₀.count (λ m. (row t m).kids) i pk.stands.tabled pk.stands.lists.placed inside un in
        let long = placed.1.long in
        let len = pk.stands.lists.long in
        let same = ap births type_is in
        omega (arith, long, len, same)

    pub unknowns_turn : {cases : List (Option Case)} → 512 < t.len + births (cases_of (sig_of p) (row t i).ty)
        → Closes p force n steps (known T R) M₀ t M cases SpentUnknowns
    unknowns_turn l =
        let long = opened_long in
        closed spent_unknowns refl pk.same pk.stands (λ k. unknowns_spent w g (at T i) pk.goes_by e (omega (arith, l, long)) pk.same)

    module _ {m : ℕ} (is : m ≡ length (cases_of (sig_of p) (row t i).ty)) (fits : t.len + births (cases_of (sig_of p) (row t i).ty) ≤ 512) where
      wide : m ≡ width p (at T i)
      wide = is ∙ ap length type_is

      few : length (opened_at p (at T i) M₀.count T) ≤ most_unknowns
      few = let long = opened_long in omega (arith, long)

      pub opened_turn : {M' : Meaning} {first : ℕ} {t' : Code} → (first ≡ M.count) × (opening_entries m ≤ M.left) × Extended M M' m (opening_clauses M.count m)
          → Opens p t i first t' → GoesOn p force n steps (known T R) M₀ t' M' one_opened
      opened_turn {M'} {first} {t'} (f, l, x) o =
          let before = pk.same.counts in
          let room = pk.same.rooms in
          let leaves = pk.same.leaves in
          let w' = wide in
          let counts = x.counts in
          let rooms = x.rooms in
          let counted : M₀.count + width p (at T i) ≡ M'.count = omega (arith, before, counts, w') in
          let entries = ap opening_entries wide in
          let y : Extended M M' (width p (at T i)) (opening_clauses M.count (width p (at T i))) =
          subst (λ v. Extended M M' v (opening_clauses M.count v)) wide x in
          let z : Extended M M' (width p (at T i)) (opening_clauses M₀.count (width p (at T i))) =
          subst (λ v. Extended M M' (width p (at T i)) (opening_clauses v (width p (at T i)))) before y in
          record {
            now_known = record { table = opened_at p (at T i) M₀.count T; conflicts = R };
            stands = subst (Stands p t' (opened_at p (at T i) M₀.count T)) counted (o.keeps T M₀.count pk.stands un (f ∙ before));
            more =
                λ k a X'' M'' r.
                unknown_opened w g (at T i) pk.goes_by e few (omega (arith, room, rooms, w')) (omega (arith, leaves, l, entries))
                (extended_from (width p (at T i)) (opening_clauses M₀.count (width p (at T i))) pk.same z) r;
          }

      pub chooser_turn : {M' : Meaning} {cases : List (Option Case)} (f : Fault) → Same M M' → fault_number f ≡ allot_refusal M m
          → Closes p force n steps (known T R) M₀ t M' cases SpentChooser
      chooser_turn f s number =
          closed spent_chooser refl (same_same pk.same s) pk.stands
          (λ k. chooser_spent w g (at T i) pk.goes_by e few (spent (cases_lt M.room m) (cases_lt M.left (opening_entries m))) (same_same pk.same s))
        where
          spent : (M.room < m) ⊎ (m ≤ M.room) → (M.left < opening_entries m) ⊎ (opening_entries m ≤ M.left)
              → (M₀.room < width p (at T i)) ⊎ (M₀.left < opening_entries (width p (at T i)))
          spent (inl l) b =
              let rooms = pk.same.rooms in
              let w' = wide in
              inl (omega (arith, l, rooms, w'))
          spent (inr l) (inl b) =
              let leaves = pk.same.leaves in
              let entries = ap opening_entries wide in
              inr (omega (arith, b, leaves, entries))
          spent (inr l) (inr b) =
              absurd (no_fault f (number ∙ cond-true _ _ _ (le-leb m M.room l) ∙ cond-true _ _ _ (le-leb (opening_entries m) M.left b)))
