-- What `model` hands over: the bytes of the way at hand, and after any calls that way is right. Assumes nothing.
use Rattle.std.proofs.Common.{◌≡◌, ℕ, Bool, true, false, leb, List, length, drop, Some, Ok, Err, Result, IfOk, refl, sym, ap, ◌∙◌, subst, arith}
use Rattle.std.proofs.Math.ListN.{take}
use Rattle.std.proofs.Math.Seq.{take-append_seam}
use Rattle.std.proofs.Math.Option.{Option, none, some}
use Rattle.std.proofs.lemmas.Bool.{le-leb, lt-leb, false≢true}
use Rattle.std.proofs.lemmas.List.{length-append, length-drop}
use Rattle.chooser.specs.Meaning.{Meaning}
use Rattle.syntax.specs.Problems.{Problem, Lawful}
use Rattle.finder.specs.Models.{Partials}
use Rattle.histories.specs.States.{AtHand, Session as Abstract, State, not_begun, begun}
use Rattle.histories.specs.Calls.{hand_refusal, Writes}
use Rattle.histories.specs.Histories.{Event, History, some?}
use Rattle.histories.proofs.Theorem.{model_at_hand}
use Rattle.models.specs.Models.{written_model, Wrote, WritesModel}
use Rattle.models.specs.Replays.{ReplaysTrue}
use Rattle.models.proofs.Replays.{written_replays_lem}
use Rattle.models.specs.declared.writing.Short.{Short}
use Rattle.sessions.specs.declared.session.Begun.{Begun}
use Rattle.sessions.specs.declared.faults.SessionFault.{SessionFault}
use Rattle.sessions.specs.declared.faults.SessionFault.TheVariants.{SmallOutput}
use Rattle.sessions.specs.Faults.{told}
use Rattle.sessions.specs.Shown.{ShowsBegun, ShowsIn}
use Rattle.sessions.specs.Modelling.{HandedOver, HandsOver, Modelled}

-- the result of the call by what writing came to, and whether there was room
abbrev pub handed : Result ℕ Short → Result ℕ SessionFault
handed (Ok n) = Ok n
handed (Err e) = Err SmallOutput

abbrev had_room : Result ℕ Short → Bool
had_room (Ok n) = true
had_room (Err e) = false

as_wanted : (o : Option AtHand) (w : Result ℕ Short) → true ≡ some? o → told (handed w) ≡ hand_refusal o (had_room w)
as_wanted none w e = absurd (false≢true (sym e))
as_wanted (some m) (Ok n) e = refl
as_wanted (some m) (Err f) e = refl

module _ (bytes old new : List ℕ) where
  wrote_so : (w : Result ℕ Short) → Wrote bytes old new w → Wrote bytes old new (handed w)
  wrote_so (Ok n) h = h
  wrote_so (Err e) h = h

  -- what is written keeps the output's length
  fits_so : (w : Result ℕ Short) → length new ≡ length old → Wrote bytes old new w → had_room w ≡ leb (length bytes) (length old)
  fits_so (Ok n) same h =
      let long = ap length h.1 ∙ length-append bytes (drop n old) in
      let rest = length-drop n old in
      let size = h.0 in
      sym (le-leb (length bytes) (length old) (omega (arith, same, long, rest, size)))
  fits_so (Err e) same h = sym (lt-leb (length bytes) (length old) h.0)

  bytes_stand : (n : ℕ) → Wrote {E = Short} bytes old new (Ok n) → take n new ≡ bytes
  bytes_stand n h = ap (λ i. take i new) h.0 ∙ ap (take (length bytes)) h.1 ∙ take-append_seam bytes (drop n old)

-- With the session's own problem, the model at hand is handed over.
module _ (x : Begun) (s : Abstract) (shown : ShowsBegun x s) (old new : List ℕ) (same : length new ≡ length old) (w : Result ℕ Short) where
  module _ (lawful : Lawful s.problem) (written : WritesModel s.problem x.table x.cases old new w) (m : AtHand) (hand : s.model ≡ some m) where
    wrote : (qs : Partials) → Writes s m qs → Wrote (written_model s.problem qs) old new w
    wrote qs k = written.writes s.table s.count m.way qs shown.stands (shown.decides m hand) k

    replays_so : (es : List Event) (M : Meaning) → History es (begun s) M → (v : Result ℕ Short)
        → ((qs : Partials) → Writes s m qs → Wrote (written_model s.problem qs) old new v)
        → IfOk (handed v) (λ n. ReplaysTrue s.problem (take n new) s.force m.steps)
    replays_so es M h (Err e) did = tt
    replays_so es M h (Ok n) did =
        let q = written.exists s.table s.count m.way shown.stands in
        let true_by = (model_at_hand es s m M h hand).replays q.0 q.1 in
        subst (λ bs. ReplaysTrue s.problem bs s.force m.steps) (sym (bytes_stand (written_model s.problem q.0) old new n (did q.0 q.1)))
        (written_replays_lem s.problem lawful x.table s.table s.count m.way q.0 shown.stands q.1 s.force m.steps true_by)

    handed_over : HandedOver s m (had_room w) old new (handed w)
    handed_over =
        record {
          exists = written.exists s.table s.count m.way shown.stands;
          fits = λ qs k. fits_so (written_model s.problem qs) old new w same (wrote qs k);
          wrote = λ qs k. wrote_so (written_model s.problem qs) old new w (wrote qs k);
          replays = λ es M h. replays_so es M h w wrote;
        }

  hands_over : (p : Problem) → Lawful p → WritesModel p x.table x.cases old new w → HandsOver p (begun s) (had_room w) old new (handed w)
  hands_over p lawful written own m hand =
      handed_over (subst Lawful (sym own) lawful) (subst (λ q. WritesModel q x.table x.cases old new w) (sym own) written) m hand

pub modelled_so : (p : Problem) → Lawful p → (S : State) (x : Begun) (old new : List ℕ) → length new ≡ length old → x.model ≡ true
    → (w : Result ℕ Short) → WritesModel p x.table x.cases old new w → ShowsIn (Some x) S
    → (r : Result ℕ SessionFault) → r ≡ handed w → Modelled p S old new r
modelled_so p lawful not_begun x old new same e w written h r is = absurd h
modelled_so p lawful (begun s) x old new same e w written h r is =
    subst (Modelled p (begun s) old new) (sym is)
    (record {
      room = had_room w;
      refuses = as_wanted s.model w (sym e ∙ h.model);
      hands_over = hands_over x s h old new same w p lawful written;
    })
