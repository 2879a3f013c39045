-- What a search promises. Assumes nothing.
use Rattle.std.specs.Prelude.{◌≡◌, Bool, true, false, List, Ok, Err, Result}
use Rattle.std.proofs.Math.Option.{none}
use Rattle.chooser.specs.Meaning.{Meaning}
use Rattle.syntax.specs.Problems.{Problem}
use Rattle.histories.specs.Rounds.{Answer as Told}
use Rattle.histories.specs.States.{Session as Abstract, State, not_begun, begun}
use Rattle.histories.specs.Calls.{search_refusal, Reply, refused, answered, Searches}
use Rattle.histories.specs.Histories.{Event, History}
use Rattle.histories.specs.Theorem.{Claims}
use Rattle.answers.specs.declared.answer.Outcome.{Outcome}
use Rattle.answers.specs.declared.answer.Outcome.TheVariants.{Model, None, Never, Foreign, SpentRounds, SpentSteps, SpentUnknowns, SpentChooser}
use Rattle.answers.specs.declared.answer.Answer.{Answer}
use Rattle.answers.specs.Told.{answer_of}
use Rattle.rounds.specs.declared.search.Limits.{Limits}
use Rattle.sessions.specs.declared.session.Begun.{Begun}
use Rattle.sessions.specs.declared.session.Session.{Session}
use Rattle.sessions.specs.declared.faults.SessionFault.{SessionFault}
use Rattle.sessions.specs.Faults.{refusal_of, told}
use Rattle.sessions.specs.Shown.{Shows, ShowsBegun}

abbrev pub is_model_found : Outcome → Bool
is_model_found Model = true
is_model_found None = false
is_model_found Never = false
is_model_found Foreign = false
is_model_found SpentRounds = false
is_model_found (SpentSteps g) = false
is_model_found SpentUnknowns = false
is_model_found SpentChooser = false

-- the call is made with the session's own problem
abbrev pub OfProblem : Problem → State → Type 0
OfProblem p not_begun = Unit {0}
OfProblem p (begun s) = s.problem ≡ p

-- what the result tells of a reply: all but the way of a model
abbrev pub Tells : Reply → Result Answer SessionFault → Type 0
Tells (refused r) (Ok a) = ⊥
Tells (refused r) (Err f) = r ≡ refusal_of f
Tells (answered t) (Ok a) = a ≡ answer_of t
Tells (answered t) (Err f) = ⊥

-- A search with the session's own problem, from the state S, is one by the relation of that call. So after whatever calls led to
-- S it overlooks nothing: what is claimed of a search holds of this one.
pub record FoundBy (l : Limits) (buffers : Bool) (S : State) (M : Meaning) (s' : Session) (M' : Meaning) (r : Result Answer SessionFault) : Type 0 where
  pub state : State
  pub reply : Reply
  pub searches : Searches l.depth l.rounds l.steps buffers S M reply state M'
  pub shows : Shows s' state
  pub tells : Tells reply r
  pub overlooks_nothing : (es : List Event) → History es S M → Claims l.depth l.steps S reply state

-- Which refusal comes is exact for whatever problem the call is passed; the search is by the relation if it is the session's own.
pub record Searched (p : Problem) (l : Limits) (buffers : Bool) (S : State) (M : Meaning) (s' : Session) (M' : Meaning) (r : Result Answer SessionFault) : Type 0 where
  pub refuses : told r ≡ search_refusal S M l.depth l.rounds l.steps buffers
  pub finds : OfProblem p S → FoundBy l buffers S M s' M' r

-- the same of a search that no test refuses, from a session that has begun
pub record Sought (l : Limits) (s : Abstract) (M : Meaning) (b' : Begun) (M' : Meaning) (a : Answer) : Type 0 where
  pub after : Abstract
  pub answer : Told
  pub tells : a ≡ answer_of answer
  pub shows : ShowsBegun b' after
  pub searches : (buffers : Bool) → search_refusal (begun s) M l.depth l.rounds l.steps buffers ≡ none
      → Searches l.depth l.rounds l.steps buffers (begun s) M (answered answer) (begun after) M'
