-- The model that the last search left. Assumes nothing.
use Rattle.std.proofs.Common.{◌≡◌, ℕ, ◌≤◌, Bool, true, List, length, drop, ◌++◌, Ok, Err, Result, refl, sym, ap, ◌∙◌, subst, arith}
use Rattle.std.proofs.Math.ListN.{take}
use Rattle.std.proofs.Math.Option.{Option, none, some, none-ne-some}
use Rattle.std.proofs.lemmas.Bool.{le-leb}
use Rattle.chooser.specs.Meaning.{Meaning}
use Rattle.syntax.specs.Problems.{Problem, Lawful}
use Rattle.finder.specs.Models.{Partials}
use Rattle.histories.specs.States.{AtHand, Session as Abstract, begun}
use Rattle.histories.specs.Calls.{Writes}
use Rattle.models.specs.Models.{written_model}
use Rattle.models.specs.Replays.{ReplaysTrue}
use Rattle.models.proofs.Recording.{fits}
use Rattle.sessions.specs.declared.session.Begun.{Begun}
use Rattle.sessions.specs.declared.session.Session.{Session}
use Rattle.sessions.specs.declared.faults.SessionFault.{SessionFault}
use Rattle.sessions.specs.Shown.{Shows}
use Rattle.sessions.specs.Modelling.{HandedOver, Modelled}
use Rattle.loader.specs.Sessions.{all_goals}
use Rattle.loader.specs.Depths.{LeftBy}
use Rattle.loader.specs.Searching.{ModelIs, ModelLeft}
use Rattle.std.proofs.Common.{Option as Maybe, Some, None}
use Rattle.histories.specs.Calls.{plain, hand_refusal}
use Rattle.std.proofs.lemmas.Bool.{cond-true}
use Rattle.std.specs.Prelude.{OnErr}
use Rattle.std.specs.Result.{result_unwrap_or}
use Rattle.sessions.specs.Shown.{ShowsIn}
use Rattle.sessions.specs.Faults.{refusal_of}

module _ {p : Problem} (lawful : Lawful p) {steps : ℕ} (s : Session) {state : Abstract} {M : Meaning} (shows : Shows s (begun state))
    (left : LeftBy p steps state M) (old new : List ℕ) (long : 1584 ≤ length old) where
  -- no model has more bytes
  fits_all : (o : Maybe Begun) → ShowsIn o (begun state) → (a : AtHand) (qs : Partials) → Writes state a qs
      → length (written_model state.problem qs) ≤ 1584
  fits_all None h a qs w = absurd h
  fits_all (Some b) h a qs w =
      fits state.problem (subst Lawful (sym left.problem) lawful) b.table state.table state.count a.way qs h.stands w

  module _ (a : AtHand) (hand : state.model ≡ some a) where
    room_for : {room : Bool} {r : Result ℕ SessionFault} (h : HandedOver state a room old new r) → room ≡ true
    room_for h =
        let q = h.exists in
        let low = fits_all s.begun shows a q.0 q.1 in
        h.fits q.0 q.1 ∙ le-leb (length (written_model state.problem q.0)) (length old) (omega (arith, low, long))

    handed_is : (n : ℕ) (room : Bool) → HandedOver state a room old new (Ok n) → ModelIs p steps state a old new n
    handed_is n room h =
        let q = h.exists in
        let wrote = h.wrote q.0 q.1 in
        record {
          partials = q.0;
          writes = q.1;
          long = wrote.0 ∙ ap (λ v. length (written_model v q.0)) left.problem;
          wrote = wrote.1 ∙ ap (λ v. written_model v q.0 ++ drop n old) left.problem;
          replays =
              subst (λ k. ReplaysTrue p (take n new) (all_goals p) k) (left.model a hand)
              (subst (λ f. ReplaysTrue p (take n new) f a.steps) left.force
              (subst (λ v. ReplaysTrue v (take n new) state.force a.steps) left.problem (h.replays left.calls M left.history)));
        }

    handed : (r : Result ℕ SessionFault) → Modelled p (begun state) old new r → ModelIs p steps state a old new (result_unwrap_or r 0)
    handed (Ok n) m = handed_is n m.room (m.hands_over left.problem a hand)
    handed (Err f) m =
        let room = room_for (m.hands_over left.problem a hand) in
        absurd (none-ne-some (refusal_of f)
        (sym (m.refuses ∙ ap (λ o. hand_refusal o m.room) hand ∙ cond-true m.room _ _ room)))

  pub model_left : (r : Result ℕ SessionFault) → Modelled p (begun state) old new r → OnErr r (new ≡ old) → (o : Option AtHand) → state.model ≡ o
      → ModelLeft p steps state o old new (result_unwrap_or r 0)
  model_left (Ok n) m same none e = absurd (none-ne-some (plain 45) (m.refuses ∙ ap (λ o. hand_refusal o m.room) e))
  model_left (Err f) m same none e = (refl, same)
  model_left r m same (some a) e = handed a e r m
