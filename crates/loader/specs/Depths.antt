-- Searches at one depth after the other. Assumes nothing.
use Rattle.std.specs.Prelude.{◌≡◌, ℕ, suc, ◌+◌, ◌<◌, ◌≤◌, Bool, true, false, List, [], ◌∷◌, ◌++◌, length, map, drop}
use Rattle.std.proofs.Math.Option.{some}
use Rattle.chooser.specs.Meaning.{Meaning}
use Rattle.syntax.specs.Problems.{Problem}
use Rattle.histories.specs.States.{AtHand, Session as Abstract, State, begun}
use Rattle.histories.specs.Rounds.{Outcome as Abstractly, model, none_within, never, foreign, spent_rounds, spent_steps, spent_unknowns, spent_chooser, Answer as Told}
use Rattle.histories.specs.Calls.{answered, Searches}
use Rattle.histories.specs.Histories.{Event, History, is_model}
use Rattle.histories.specs.Theorem.{finishes, stopped, closing, Solvable}
use Rattle.answers.specs.declared.answer.Outcome.{Outcome}
use Rattle.answers.specs.declared.answer.Outcome.TheVariants.{Model, None, Never, Foreign, SpentRounds, SpentSteps, SpentUnknowns, SpentChooser}
use Rattle.answers.specs.Told.{answer_of}
use Rattle.sessions.specs.declared.session.Session.{Session}
use Rattle.sessions.specs.Shown.{Shows}
use Rattle.boundary.specs.declared.answering.DepthAnswer.{DepthAnswer}
use Rattle.loader.specs.declared.request.Request.{Request}
use Rattle.boundary.specs.Answering.{as_written}
use Rattle.loader.specs.Sessions.{all_goals, forced}

-- the next depth is searched after NONE alone
abbrev pub goes_on : Outcome → Bool
goes_on Model = false
goes_on None = true
goes_on Never = false
goes_on Foreign = false
goes_on SpentRounds = false
goes_on (SpentSteps g) = false
goes_on SpentUnknowns = false
goes_on SpentChooser = false

abbrev pub is_none_within : Abstractly → Bool
is_none_within (model w) = false
is_none_within none_within = true
is_none_within never = false
is_none_within foreign = false
is_none_within spent_rounds = false
is_none_within (spent_steps g) = false
is_none_within spent_unknowns = false
is_none_within spent_chooser = false

-- The searches from depth n on, each from the state and with the chooser that the one before left, up to the first that answers
-- other than NONE, or through the last depth.
pub data Deepens (rounds steps last : ℕ) : ℕ → State → Meaning → List Told → State → Meaning → Type 0 where
  through : {n : ℕ} {S : State} {M : Meaning} → last < n → Deepens rounds steps last n S M [] S M
  closed : {n : ℕ} {S S' : State} {M M' : Meaning} {a : Told} → n ≤ last → Searches n rounds steps true S M (answered a) S' M'
      → is_none_within a.outcome ≡ false → Deepens rounds steps last n S M (a ∷ []) S' M'
  none_here : {n : ℕ} {S S₁ S' : State} {M M₁ M' : Meaning} {a : Told} {more : List Told} → n ≤ last
      → Searches n rounds steps true S M (answered a) S₁ M₁ → is_none_within a.outcome ≡ true
      → Deepens rounds steps last (suc n) S₁ M₁ more S' M' → Deepens rounds steps last n S M (a ∷ more) S' M'

-- what an answer to depth n says of the problem with all its goals
pub record Believed (p : Problem) (n : ℕ) (a : Told) : Type 0 where
  -- a search that no count stops finishes
  pub finished : stopped a.outcome ≡ false → finishes a.outcome ≡ true
  -- one that finishes answers MODEL exactly when some assignment no deeper than n makes every goal come to true
  pub exactly : finishes a.outcome ≡ true
      → (is_model a.outcome ≡ true → Solvable p (all_goals p) n) × (Solvable p (all_goals p) n → is_model a.outcome ≡ true)
  -- after NEVER none does at any depth
  pub never_any : a.outcome ≡ never → (n' : ℕ) → Solvable p (all_goals p) n' → ⊥
  pub counts : a.rounds ≡ a.opened + a.recorded + closing a

-- so for each of the answers, the first of which is to depth n
abbrev pub AllBelieved : Problem → ℕ → List Told → Type 0
AllBelieved p n [] = Unit {0}
AllBelieved p n (a ∷ more) = Believed p n a × AllBelieved p (suc n) more

-- an answer as it crosses to C
abbrev pub crossing : Told → DepthAnswer
crossing a = as_written (answer_of a)

-- the session that the searches left
pub record LeftBy (p : Problem) (steps : ℕ) (s : Abstract) (M : Meaning) : Type 0 where
  pub calls : List Event
  pub history : History calls (begun s) M
  pub problem : s.problem ≡ p
  pub force : s.force ≡ all_goals p
  pub model : (m : AtHand) → s.model ≡ some m → m.steps ≡ steps

pub record Deepened (p : Problem) (M : Meaning) (r : Request) (before after : List DepthAnswer) (s' : Session) (M' : Meaning) (n : ℕ) : Type 0 where
  pub told : List Told
  pub state : Abstract
  pub deepens : Deepens r.rounds r.steps r.last r.first (begun (forced p M (length p.goals))) M told (begun state) M'
  pub shows : Shows s' (begun state)
  pub left : LeftBy p r.steps state M'
  pub count : n ≡ length told
  pub writes : after ≡ map crossing told ++ drop n before
  pub believed : AllBelieved p r.first told
