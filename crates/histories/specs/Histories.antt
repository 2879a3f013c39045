-- Any list of calls on a session. Assumes nothing.
use Rattle.std.specs.Prelude.{◌≡◌, ℕ, Bool, true, false, cond, List, [], ◌∷◌, ◌==◌}
use Rattle.std.proofs.Math.Option.{Option, none, some}
use Rattle.chooser.specs.Meaning.{Meaning, Same}
use Rattle.syntax.specs.Problems.{Problem}
use Rattle.histories.specs.States.{AtHand, Session, State, not_begun, begun}
use Rattle.histories.specs.Rounds.{Outcome, model, none_within, never, foreign, spent_rounds, spent_steps, spent_unknowns, spent_chooser}
use Rattle.histories.specs.Calls.{Refusal, Begins, put_refusal, after_put, give_back_refusal, after_give_back, model_refusal, Reply, refused, answered, Searches}

-- a call, with what it was given and what it answered
pub data Event : Type 0 where
  began : Problem → Option Refusal → Event
  put : (g : ℕ) → Option Refusal → Event
  gave_back : (slip : Option ℕ) → Option Refusal → Event
  searched : (n rounds steps : ℕ) → Reply → Event
  modelled : Option Refusal → Event

-- `History es S M`: a session not begun has come to the state S by the calls es, the newest first, and its own chooser means M.
-- Its own problem and chooser are those of its last accepted begin (before the first, any); every call but begin was made with
-- these, and nothing else wrote to them. A later call on a session is one more constructor.
pub data History : List Event → State → Meaning → Type 0 where
  new : {M : Meaning} → History [] not_begun M
  any_chooser : {es : List Event} {M M' : Meaning} → History es not_begun M → History es not_begun M'
  begin_accepted : {es : List Event} {S S' : State} {p : Problem} {M₀ M M' : Meaning} → History es S M₀ → Begins p S M none S' M'
      → History (began p none ∷ es) S' M'
  -- refused, with its own chooser or another
  begin_refused : {es : List Event} {S S' : State} {p : Problem} {r : Refusal} {M M' : Meaning} → History es S M
      → Begins p S M (some r) S' M' → History (began p (some r) ∷ es) S' M'
  begin_refused_other : {es : List Event} {S S' : State} {p : Problem} {r : Refusal} {M₀ M M' : Meaning} → History es S M₀
      → Begins p S M (some r) S' M' → History (began p (some r) ∷ es) S' M₀
  put_called : {es : List Event} {S : State} {M : Meaning} (g : ℕ) → History es S M → History (put g (put_refusal S g) ∷ es) (after_put S g) M
  give_back_called : {es : List Event} {S : State} {M : Meaning} (slip : Option ℕ) → History es S M
      → History (gave_back slip (give_back_refusal S slip) ∷ es) (after_give_back S slip) M
  search_called : {es : List Event} {S S' : State} {M M' : Meaning} {n rounds steps : ℕ} {buffers : Bool} {r : Reply} → History es S M
      → Searches n rounds steps buffers S M r S' M' → History (searched n rounds steps r ∷ es) S' M'
  model_called : {es : List Event} {S : State} {M : Meaning} (room : Bool) → History es S M
      → History (modelled (model_refusal S room) ∷ es) S M
  -- what leaves the chooser with the same meaning, such as asking it, may come in between
  chooser_used : {es : List Event} {S : State} {M M' : Meaning} → History es S M → Same M M' → History es S M'

-- What the calls say of the state: the session's own problem, the goals in force, and whether a model is at hand, which is when
-- the last accepted begin, put, give back or search was a search that answered MODEL.
abbrev pub own_problem : List Event → Option Problem
own_problem [] = none
own_problem (began p none ∷ es) = some p
own_problem (began p (some r) ∷ es) = own_problem es
own_problem (put g r ∷ es) = own_problem es
own_problem (gave_back slip r ∷ es) = own_problem es
own_problem (searched n rounds steps r ∷ es) = own_problem es
own_problem (modelled r ∷ es) = own_problem es

abbrev pub in_force : List Event → ℕ → Bool
in_force [] g = false
in_force (began p none ∷ es) g = false
in_force (began p (some r) ∷ es) g = in_force es g
in_force (put h none ∷ es) g = cond (g == h) true (in_force es g)
in_force (put h (some r) ∷ es) g = in_force es g
in_force (gave_back none r ∷ es) g = in_force es g
in_force (gave_back (some h) none ∷ es) g = cond (g == h) false (in_force es g)
in_force (gave_back (some h) (some r) ∷ es) g = in_force es g
in_force (searched n rounds steps r ∷ es) g = in_force es g
in_force (modelled r ∷ es) g = in_force es g

abbrev pub is_model : Outcome → Bool
is_model (model w) = true
is_model none_within = false
is_model never = false
is_model foreign = false
is_model spent_rounds = false
is_model (spent_steps g) = false
is_model spent_unknowns = false
is_model spent_chooser = false

abbrev pub at_hand : List Event → Bool
at_hand [] = false
at_hand (began p none ∷ es) = false
at_hand (began p (some r) ∷ es) = at_hand es
at_hand (put g none ∷ es) = false
at_hand (put g (some r) ∷ es) = at_hand es
at_hand (gave_back slip none ∷ es) = false
at_hand (gave_back slip (some r) ∷ es) = at_hand es
at_hand (searched n rounds steps (refused r) ∷ es) = at_hand es
at_hand (searched n rounds steps (answered a) ∷ es) = is_model a.outcome
at_hand (modelled r ∷ es) = at_hand es

abbrev pub some? : Option AtHand → Bool
some? none = false
some? (some m) = true

-- the state is what the calls say
pub record Said (es : List Event) (s : Session) : Type 0 where
  pub problem : own_problem es ≡ some s.problem
  pub force : (g : ℕ) → s.force g ≡ in_force es g
  pub model : some? s.model ≡ at_hand es

abbrev pub SaidOf : List Event → State → Type 0
SaidOf es not_begun = own_problem es ≡ none
SaidOf es (begun s) = Said es s

abbrev pub CallsSay : Type 0
CallsSay = (es : List Event) (S : State) (M : Meaning) → History es S M → SaidOf es S
