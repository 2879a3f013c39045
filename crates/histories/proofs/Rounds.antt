-- Rounds keep the invariant, their counts add up, each recorded conflict is new, and the outcome is right. Assumes nothing.
use Rattle.std.proofs.Common.{◌≡◌, ℕ, ◌+◌, ◌<◌, Bool, false, List, [], ◌∷◌, ◌++◌, length, sym, refl, ap, ◌∙◌, subst, arith, length-append}
use mathlib.Core.Option.{Option, none, some}
use Rattle.std.proofs.lemmas.Bool.{both_ways}
use Rattle.chooser.specs.Meaning.{Meaning, Same}
use Rattle.syntax.specs.Values.{Values}
use Rattle.syntax.specs.Problems.{Problem, sig_of, Lawful}
use Rattle.judging.specs.Paths.{Path, type_of}
use Rattle.judging.specs.Assignments.{Assigns}
use Rattle.finder.specs.Levels.{measures, too_shallow, Within}
use Rattle.finder.specs.Tables.{Table, opening, width, opened_at, Tabled}
use Rattle.finder.specs.Ways.{decided}
use Rattle.finder.specs.Conflicts.{Conflict, FullSet, Full, ForbidsSet, Allows}
use Rattle.finder.specs.Models.{Solves}
use Rattle.finder.specs.Invariant.{Sound}
use Rattle.finder.specs.Claims.{ModelRight}
use Rattle.finder.proofs.Tables.{in_table, declared_at}
use Rattle.finder.proofs.Ways.{never_foreign}
use Rattle.finder.proofs.Invariant.{opening_keeps, recording_keeps}
use Rattle.finder.proofs.Asking.{asked_switched}
use Rattle.finder.proofs.Conflicts.{conflict_explained, new_in_full}
use Rattle.finder.proofs.Findings.{findings_stand_lem, awaited_in_table}
use Rattle.histories.specs.Rounds.{Outcome, model, none_within, never, foreign, spent_rounds, spent_steps, spent_unknowns, spent_chooser, Answer, closes, Known, conflict_in, Runs, rounds_spent, none_found, never_found, foreign_found, steps_spent, conflict_recorded, conflict_too_long, unknown_opened, unknowns_spent, chooser_spent, model_found}
use Rattle.histories.specs.Theorem.{closing_of, Fresh}
use Rattle.histories.proofs.Depth.{some_constructor, model_right, none_right, never_right}

-- the invariant, of what is known and what the chooser means
abbrev pub Holds : Problem → Known → Meaning → Type 0
Holds p X M = Sound p X.table X.conflicts M.count M.ways

pub sound_same : (p : Problem) (X : Known) (M M' : Meaning) → Same M M' → Holds p X M → Holds p X M'
sound_same p X M M' same S =
    record {
      tabled = subst (Tabled p X.table) (sym same.counts) S.tabled;
      explained = S.explained;
      allowed = λ w e. S.allowed w (sym (same.allows w) ∙ e);
      allows = λ w f. same.allows w ∙ S.allows w f;
    }

-- what an outcome means
abbrev pub Means : Problem → (ℕ → Bool) → ℕ → ℕ → Table → Outcome → Type 0
Means p force n steps T (model w) = ModelRight p (decided p T w) n force steps
Means p force n steps T none_within = (α : Values) → Assigns p α → Within p n α → Solves p force α → ⊥
Means p force n steps T never = (α : Values) → Assigns p α → Solves p force α → ⊥
Means p force n steps T foreign = ⊥
Means p force n steps T spent_rounds = Unit {0}
Means p force n steps T (spent_steps g) = Unit {0}
Means p force n steps T spent_unknowns = Unit {0}
Means p force n steps T spent_chooser = Unit {0}

pub record Ran (p : Problem) (force : ℕ → Bool) (n steps : ℕ) (X : Known) (a : Answer) (X' : Known) (M' : Meaning) : Type 0 where
  pub holds : Holds p X' M'
  pub means : Means p force n steps X'.table a.outcome
  pub counts : a.rounds ≡ a.opened + a.recorded + closing_of a.outcome
  pub recorded : List Conflict
  pub grows : X'.conflicts ≡ recorded ++ X.conflicts
  pub long : length recorded ≡ a.recorded
  pub fresh : Fresh p X'.table force recorded X.conflicts

-- one full set forbidden anew, and one more conflict at the old end of a row of fresh ones
abbrev New : Problem → Table → (ℕ → Bool) → Conflict → List Conflict → Type 0
New p T force k before = (F : FullSet) × Full p T F × Allows before force F × ForbidsSet k F

join_assoc : {A : Type 0} (xs ys zs : List A) → xs ++ (ys ++ zs) ≡ (xs ++ ys) ++ zs
join_assoc [] ys zs = refl
join_assoc (x ∷ xs) ys zs = ap (◌∷◌ x) (join_assoc xs ys zs)

fresh_join : (p : Problem) (T : Table) (force : ℕ → Bool) (ks : List Conflict) (k : Conflict) (before : List Conflict)
    → Fresh p T force ks (k ∷ before) → New p T force k before → Fresh p T force (ks ++ (k ∷ [])) before
fresh_join p T force [] k before f new = (new, tt)
fresh_join p T force (j ∷ ks) k before f new =
    let q = f.0 in
    ((q.0, q.1, subst (λ R. Allows R force q.0) (join_assoc ks (k ∷ []) before) q.2, q.3), fresh_join p T force ks k before f.1 new)

module _ (p : Problem) (L : Lawful p) (force : ℕ → Bool) (n steps : ℕ) (deep : too_shallow p (measures p) n ≡ false) where
  -- a full set of the table then is one of a later table, where what was not opened then has the case 0
  full_later : (T T' : Table) (count : ℕ) → Tabled p T' count → (F : FullSet) → Full p T F → ((u : Path) → opening T u ≡ none → F u ≡ 0) → Full p T' F
  full_later T T' count tab F full zeros u a e = go (opening T u) refl
    where
      go : (o : Option ℕ) → opening T u ≡ o → F u < width p u
      go none f =
          let z = zeros u f in
          let c = some_constructor p L (type_of (sig_of p) u) (declared_at p T' count L tab u (in_table T' u a e)) in
          omega (arith, z, c)
      go (some b) f = full u b f

  stop : (X : Known) (M M' : Meaning) (o : Outcome) → closing_of o ≡ 1 → Holds p X M → Same M M'
      → Means p force n steps X.table o → Ran p force n steps X (closes o) X M'
  stop X M M' o c S same m =
      record {
        holds = sound_same p X M M' same S;
        means = m;
        counts = omega (arith, c);
        recorded = [];
        grows = refl;
        long = refl;
        fresh = tt;
      }

  pub runs_right : {k : ℕ} {X X' : Known} {M M' : Meaning} {a : Answer} → Runs p force n steps k X M a X' M' → Holds p X M
      → Ran p force n steps X a X' M'
  runs_right {X = X} {M = M} {M' = M'} (rounds_spent same) S =
      record {
        holds = sound_same p X M M' same S;
        means = tt;
        counts = refl;
        recorded = [];
        grows = refl;
        long = refl;
        fresh = tt;
      }
  runs_right {X = X} {M = M} {M' = M'} (none_found w no' yes' same) S =
      stop X M M' none_within refl S same (none_right p L X.table X.conflicts M.count n M.ways force S no')
  runs_right {X = X} {M = M} {M' = M'} (never_found no' none' same) S =
      stop X M M' never refl S same (never_right p L X.table X.conflicts M.count M.ways force S none')
  runs_right {X = X} {M = M} {M' = M'} (foreign_found w pick bad same) S =
      stop X M M' foreign refl S same
      (both_ways _ bad (never_foreign p X.table X.conflicts w S.tabled.distinct (S.allowed w pick.allowed)))
  runs_right {X = X} {M = M} {M' = M'} (steps_spent w g by found same) S = stop X M M' (spent_steps g) refl S same tt
  runs_right {X = X} {X' = X'} {M = M} (conflict_recorded {M₁ = M₁} {a = a} w g E by found room ext run) S =
      let q = (findings_stand_lem p X.table w force steps L).when_false g E found in
      let k : Conflict = conflict_in p X w g E in
      let kept = recording_keeps p X.table X.conflicts M.count M.ways M₁.ways k S
      (conflict_explained p X.table w g E q.0 q.2) ext.allows in
      let more : M.count ≡ M₁.count = (let c = ext.counts in omega (arith, c)) in
      let r = runs_right run (subst (λ x. Sound p X.table (k ∷ X.conflicts) x M₁.ways) more kept) in
      let f = new_in_full p X.table X.conflicts M.count M.ways w force g E S by.picked.allowed
      (asked_switched w p (measures p) n force X.table by.picked.meets) in
      let c = r.counts in
      let l = r.long in
      let j = length-append r.recorded (k ∷ []) in
      record {
        holds = r.holds;
        means = r.means;
        counts = omega (arith, c);
        recorded = r.recorded ++ (k ∷ []);
        grows = r.grows ∙ join_assoc r.recorded (k ∷ []) X.conflicts;
        long = omega (arith, l, j);
        fresh = fresh_join p X'.table force r.recorded k X.conflicts r.fresh
            (f.0, full_later X.table X'.table _ r.holds.tabled f.0 f.1 f.4, f.2, f.3);
      }
  runs_right {X = X} {M = M} {M' = M'} (conflict_too_long w g E by found room same) S = stop X M M' spent_chooser refl S same tt
  runs_right {X = X} {M = M} (unknown_opened {M₁ = M₁} w g u by found fewer room left ext run) S =
      let q = (findings_stand_lem p X.table w force steps L).when_waiting g u found in
      let t = awaited_in_table p X.table X.conflicts M.count w g u L q.0 S.tabled (S.allowed w by.picked.allowed) q.2 in
      let kept = opening_keeps p X.table X.conflicts M.count M.ways M₁.ways u S t.0 t.1 ext.allows in
      let r = runs_right run (subst (λ x. Sound p (opened_at p u M.count X.table) X.conflicts x M₁.ways) (sym ext.counts) kept) in
      let c = r.counts in
      record {
        holds = r.holds;
        means = r.means;
        counts = omega (arith, c);
        recorded = r.recorded;
        grows = r.grows;
        long = r.long;
        fresh = r.fresh;
      }
  runs_right {X = X} {M = M} {M' = M'} (unknowns_spent w g u by found many same) S = stop X M M' spent_unknowns refl S same tt
  runs_right {X = X} {M = M} {M' = M'} (chooser_spent w g u by found fewer small same) S = stop X M M' spent_chooser refl S same tt
  runs_right {X = X} {M = M} {M' = M'} (model_found w by found same) S =
      stop X M M' (model w) refl S same
      (model_right p L X.table M.count n force steps w S.tabled deep by.picked.meets
      ((findings_stand_lem p X.table w force steps L).when_true found))
