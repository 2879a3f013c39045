-- Bringing one goal after the other into force. Assumes nothing.
use Rattle.std.proofs.Common.{◌≡◌, ℕ, suc, ◌+◌, ◌<◌, ◌≤◌, Bool, true, false, cond, inl, inr, [], ◌∷◌, length, eqb, ltb, Ok, Err, refl, sym, ap, ◌∙◌, subst, arith, add-one}
use Rattle.std.proofs.Math.Option.{Option, none, some, none-ne-some}
use Rattle.std.proofs.Math.Path.{fun_ext}
use Rattle.std.proofs.lemmas.Bool.{true≢false, eqb-true, eqb-false, ltb-true, ltb-false, lt-ltb, le-ltb, cond-true, cond-false}
use Rattle.chooser.specs.Meaning.{Meaning}
use Rattle.chooser.specs.Made.{Fresh}
use Rattle.syntax.specs.Problems.{Problem}
use Rattle.finder.specs.Clauses.{Extended}
use Rattle.histories.specs.States.{State, not_begun, begun, start}
use Rattle.histories.specs.Calls.{Refusal, plain, forcing, with_force, refused_state, put_refusal, put_in, after_put, Begins, not_new, too_few, begins}
use Rattle.histories.specs.Histories.{began, put, History, new, begin_accepted, put_called}
use Rattle.sessions.specs.declared.session.Session.{Session}
use Rattle.sessions.specs.declared.faults.SessionFault.{SessionFault}
use Rattle.sessions.specs.Shown.{Shows}
use Rattle.sessions.specs.Beginning.{Began}
use Rattle.loader.specs.Sessions.{below, forced, Put}

one_more_past : (g h : ℕ) → (eqb h g ≡ false) → (b : Bool) → ltb h g ≡ b → b ≡ ltb h (suc g)
one_more_past g h e true l = let low = ltb-true h g l in sym (lt-ltb h (suc g) (omega (arith, low)))
one_more_past g h e false l =
    let low = ltb-false h g l in
    let other = eqb-false h g e in
    sym (le-ltb h (suc g) (omega (arith, low, other)))

one_more_by : (g h : ℕ) (b : Bool) → eqb h g ≡ b → cond b true (ltb h g) ≡ ltb h (suc g)
one_more_by g h true e = let same = eqb-true h g e in sym (lt-ltb h (suc g) (omega (arith, same)))
one_more_by g h false e = one_more_past g h e (ltb h g) refl

-- the goals below g and g itself are those below the next
one_more : (g h : ℕ) → forcing (below g) g true h ≡ below (suc g) h
one_more g h = one_more_by g h (eqb h g) refl

module _ (p : Problem) (M : Meaning) (g : ℕ) (inside : g < length p.goals) where
  put_accepted : put_refusal (begun (forced p M g)) g ≡ none
  put_accepted =
      cond-true (ltb g (length p.goals)) _ _ (lt-ltb g (length p.goals) inside) ∙ cond-false (ltb g g) _ _ (le-ltb g g (omega arith))

  put_leaves : after_put (begun (forced p M g)) g ≡ begun (forced p M (suc g))
  put_leaves =
      ap (λ r. refused_state r (begun (forced p M g)) (put_in (begun (forced p M g)) g)) put_accepted
      ∙ ap (λ f. begun (with_force (start p M) f)) (fun_ext (one_more g))

  pub put_one : {s s' : Session} → Put p M g s → ((S : State) → Shows s S → Shows s' (after_put S g)) → Put p M (g + 1) s'
  put_one {s' = s'} h shows =
      rw add-one
      (record {
        shows = subst (Shows s') put_leaves (shows (begun (forced p M g)) h.shows);
        calls = put g (put_refusal (begun (forced p M g)) g) ∷ h.calls;
        history = subst (λ S. History (put g (put_refusal (begun (forced p M g)) g) ∷ h.calls) S M) put_leaves (put_called g h.history);
      })

-- none is in force at first
begins_unforced : (p : Problem) (M : Meaning) → begun (start p M) ≡ begun (forced p M 0)
begins_unforced p M = ap (λ f. begun (with_force (start p M) f)) (fun_ext (λ h. sym (le-ltb h 0 (omega arith))))

-- what an accepted begin leaves
pub record Beginning (p : Problem) (M M' : Meaning) (s' : Session) : Type 0 where
  pub switched : Extended M M' (length p.goals) []
  pub ready : Put p M' 0 s'

module _ {p : Problem} {M M' : Meaning} {most entries : ℕ} (fresh : Fresh M most entries) where
  begun_by : (S : State) (s' : Session) (o : Option Refusal) → o ≡ none → Begins p not_begun M o S M' → Shows s' S → Beginning p M M' s'
  begun_by S s' o e (not_new many same) h = absurd (none-ne-some (plain 20) (sym e))
  begun_by S s' o e (too_few none_yet all few same) h = absurd (none-ne-some _ (sym e))
  begun_by S s' o e (begins lawful none_yet all room switched) h =
      record {
        switched = switched;
        ready = record {
          shows = subst (Shows s') (begins_unforced p M') h;
          calls = began p none ∷ [];
          history = subst (λ S. History (began p none ∷ []) S M') (begins_unforced p M') (begin_accepted {M₀ = M} new (begins lawful none_yet all room switched));
        };
      }

  pub begun_accepted : {U : Type 0} (s' : Session) (u : U) → Began p not_begun M s' M' (Ok u) → Beginning p M M' s'
  begun_accepted s' u b = begun_by b.state s' none refl b.begins b.shows

  never_refused : (S : State) (r : Refusal) (o : Option Refusal) → o ≡ some r → length p.goals ≤ most → Begins p not_begun M o S M' → ⊥
  never_refused S r o e few (not_new (inl many) same) = let c = fresh.counts in omega (arith, many, c)
  never_refused S r o e few (not_new (inr no_way) same) = true≢false (sym (fresh.allows (λ i. false)) ∙ no_way (λ i. false))
  never_refused S r o e few (too_few none_yet all room same) = let c = fresh.rooms in omega (arith, room, few, c)
  never_refused S r o e few (begins lawful none_yet all room switched) = none-ne-some r e

  pub begin_accepted_by : {U : Type 0} (s' : Session) (f : SessionFault) → length p.goals ≤ most → Began {U = U} p not_begun M s' M' (Err f) → ⊥
  begin_accepted_by s' f few b = never_refused b.state _ _ refl few b.begins
