-- The theorem: what the invariant gives for a search, whatever came before it. Assumes nothing.
use Rattle.std.proofs.Common.{◌≡◌, ℕ, ◌+◌, Bool, true, false, eqb, [], sym, refl, ◌∙◌, subst, arith}
use Rattle.std.proofs.lemmas.Bool.{false≢true, eqb-true, cond-true, cond-false}
use Rattle.syntax.specs.Values.{Values}
use Rattle.syntax.specs.Problems.{Problem}
use Rattle.judging.specs.Asked.{◌∈◌}
use Rattle.judging.specs.Assignments.{Assigns, ComesTrue}
use Rattle.chooser.specs.Meaning.{Meaning}
use Rattle.finder.specs.Tables.{Table}
use Rattle.finder.specs.Conflicts.{Conflict, Forbids}
use Rattle.finder.proofs.Conflicts.{forbids_only}
use Rattle.histories.specs.States.{Session, State}
use Rattle.histories.specs.Rounds.{Outcome, model, none_within, never, foreign, spent_rounds, spent_steps, spent_unknowns, spent_chooser, Answer, Known}
use Rattle.histories.specs.Calls.{Reply, known, Searches, search_refused, search_shallow, search_made}
use Rattle.histories.specs.Histories.{is_model}
use Rattle.histories.specs.Theorem.{finishes, stopped, closing_of, closing, Solvable, Claims, NothingOverlooked, ModelAtHand}
use Rattle.histories.proofs.Depth.{shallow_right}
use Rattle.histories.proofs.Rounds.{Holds, Means, runs_right}
use Rattle.histories.proofs.Histories.{Stands, stands}

module _ (p : Problem) (force : ℕ → Bool) (n steps : ℕ) (T : Table) where
  it_finishes : (o : Outcome) → Means p force n steps T o → stopped o ≡ false → finishes o ≡ true
  it_finishes (model w) m e = refl
  it_finishes none_within m e = refl
  it_finishes never m e = refl
  it_finishes foreign m e = absurd m
  it_finishes spent_rounds m e = absurd (false≢true (sym e))
  it_finishes (spent_steps g) m e = absurd (false≢true (sym e))
  it_finishes spent_unknowns m e = absurd (false≢true (sym e))
  it_finishes spent_chooser m e = absurd (false≢true (sym e))

  it_solves : (o : Outcome) → Means p force n steps T o → is_model o ≡ true → Solvable p force n
  it_solves (model w) m e =
      let q = m.fillable in
      let f = m.filled q.0 q.1 q.2 q.3 in
      (q.2, f.0, q.4, f.1)
  it_solves none_within m e = absurd (false≢true e)
  it_solves never m e = absurd (false≢true e)
  it_solves foreign m e = absurd m
  it_solves spent_rounds m e = absurd (false≢true e)
  it_solves (spent_steps g) m e = absurd (false≢true e)
  it_solves spent_unknowns m e = absurd (false≢true e)
  it_solves spent_chooser m e = absurd (false≢true e)

  it_models : (o : Outcome) → Means p force n steps T o → finishes o ≡ true → Solvable p force n → is_model o ≡ true
  it_models (model w) m e q = refl
  it_models none_within m e q = absurd (m q.0 q.1 q.2 q.3)
  it_models never m e q = absurd (m q.0 q.1 q.3)
  it_models foreign m e q = absurd m
  it_models spent_rounds m e q = absurd (false≢true e)
  it_models (spent_steps g) m e q = absurd (false≢true e)
  it_models spent_unknowns m e q = absurd (false≢true e)
  it_models spent_chooser m e q = absurd (false≢true e)

closing_same : (a : Answer) → a.rounds ≡ a.opened + a.recorded + closing_of a.outcome → closing a ≡ closing_of a.outcome
closing_same a e = go (eqb a.rounds 0) refl
  where
    go : (b : Bool) → eqb a.rounds 0 ≡ b → closing a ≡ closing_of a.outcome
    go true f =
        let z = eqb-true a.rounds 0 f in
        let none_left : 0 ≡ closing_of a.outcome = omega (arith, z, e) in
        cond-true (eqb a.rounds 0) 0 (closing_of a.outcome) f ∙ none_left
    go false f = cond-false (eqb a.rounds 0) 0 (closing_of a.outcome) f

on_record : (s : Session) (X : Known) (M : Meaning) → Holds s.problem X M → (k : Conflict) → k ∈ X.conflicts
    → (α : Values) → Assigns s.problem α → Forbids k α → ComesTrue s.problem α k.of → ⊥
on_record s X M S k m α as' f t = forbids_only s.problem X.table k α (S.explained k m) f t

-- NONE told apart from the others
abbrev IsNone : Outcome → Type 0
IsNone (model w) = ⊥
IsNone none_within = Unit {0}
IsNone never = ⊥
IsNone foreign = ⊥
IsNone spent_rounds = ⊥
IsNone (spent_steps g) = ⊥
IsNone spent_unknowns = ⊥
IsNone spent_chooser = ⊥

claims : {n rounds steps : ℕ} {buffers : Bool} {S S' : State} {M M' : Meaning} {r : Reply}
    → Searches n rounds steps buffers S M r S' M' → Stands S M → Claims n steps S r S'
claims (search_refused e same) q = refl
claims {n} {M = M} (search_shallow {s = s} e shallow same) q =
    record {
      finished = λ f. refl;
      exactly = λ f. (
        (λ m. absurd (false≢true m)),
        λ z. absurd (shallow_right s.problem q.lawful n shallow z.0 z.1 z.2),
      );
      modelled = λ w f. absurd (subst IsNone f tt);
      never_any = λ f. absurd (subst IsNone f tt);
      on_record = on_record s (known s) M q.holds;
      counts = refl;
      recorded = [];
      record_grows = refl;
      record_counts = refl;
      fresh = tt;
    }
claims {n} {steps = steps} {M' = M'} (search_made {s = s} {X = X} {a = a} e deep run) q =
    let r = runs_right s.problem q.lawful s.force n steps deep run q.holds in
    let c = r.counts in
    let z = closing_same a c in
    record {
      finished = it_finishes s.problem s.force n steps X.table a.outcome r.means;
      exactly = λ f. (
        it_solves s.problem s.force n steps X.table a.outcome r.means,
        it_models s.problem s.force n steps X.table a.outcome r.means f,
      );
      modelled = λ w f. subst (Means s.problem s.force n steps X.table) f r.means;
      never_any = λ f n' y. subst (Means s.problem s.force n steps X.table) f r.means y.0 y.1 y.3;
      on_record = on_record s X M' r.holds;
      counts = omega (arith, c, z);
      recorded = r.recorded;
      record_grows = r.grows;
      record_counts = r.long;
      fresh = r.fresh;
    }

pub nothing_overlooked : NothingOverlooked
nothing_overlooked es S S' M M' n rounds steps buffers r h s = claims s (stands h)

pub model_at_hand : ModelAtHand
model_at_hand es s m M h e = (stands h).hand m e
