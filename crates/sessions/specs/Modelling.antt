-- What `model` promises. Assumes nothing.
use Rattle.std.specs.Prelude.{◌≡◌, ℕ, Bool, List, length, nat_le, Result, IfOk}
use Rattle.std.proofs.Math.ListN.{take}
use Rattle.std.proofs.Math.Option.{some}
use Rattle.chooser.specs.Meaning.{Meaning}
use Rattle.syntax.specs.Problems.{Problem}
use Rattle.finder.specs.Models.{Partials}
use Rattle.histories.specs.States.{AtHand, Session as Abstract, State, not_begun, begun}
use Rattle.histories.specs.Calls.{model_refusal, Writes}
use Rattle.histories.specs.Histories.{Event, History}
use Rattle.models.specs.Models.{written_model, Wrote}
use Rattle.models.specs.Replays.{ReplaysTrue}
use Rattle.sessions.specs.declared.faults.SessionFault.{SessionFault}
use Rattle.sessions.specs.Faults.{told}

-- The model m at hand is written, or the output has no room for its bytes. After whatever calls led to s the model is right: with
-- the steps of the search that found it, a replay of the bytes written makes each goal in force true.
pub record HandedOver (s : Abstract) (m : AtHand) (room : Bool) (old new : List ℕ) (r : Result ℕ SessionFault) : Type 0 where
  pub exists : (qs : Partials) × Writes s m qs
  pub fits : (qs : Partials) → Writes s m qs → room ≡ nat_le (length (written_model s.problem qs)) (length old)
  pub wrote : (qs : Partials) → Writes s m qs → Wrote (written_model s.problem qs) old new r
  pub replays : (es : List Event) (M : Meaning) → History es (begun s) M → IfOk r (λ n. ReplaysTrue s.problem (take n new) s.force m.steps)

-- so it is with any model at hand, if the call is made with the session's own problem
abbrev pub HandsOver : Problem → State → Bool → List ℕ → List ℕ → Result ℕ SessionFault → Type 0
HandsOver p not_begun room old new r = Unit {0}
HandsOver p (begun s) room old new r = s.problem ≡ p → (m : AtHand) → s.model ≡ some m → HandedOver s m room old new r

-- A call from the state S: which refusal comes is as the relation of calls has it, whatever problem the call is passed.
pub record Modelled (p : Problem) (S : State) (old new : List ℕ) (r : Result ℕ SessionFault) : Type 0 where
  pub room : Bool
  pub refuses : told r ≡ model_refusal S room
  pub hands_over : HandsOver p S room old new r
