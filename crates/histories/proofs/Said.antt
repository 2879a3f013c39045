-- The calls of a history say what the state is. Assumes nothing.
use Rattle.std.proofs.Common.{◌≡◌, ℕ, Bool, true, false, cond, eqb, List, ◌∷◌, refl, ap, subst}
use mathlib.Core.Option.{Option, none, some}
use Rattle.chooser.specs.Meaning.{Meaning}
use Rattle.syntax.specs.Problems.{Problem}
use Rattle.histories.specs.States.{Session, State, not_begun, begun}
use Rattle.histories.specs.Rounds.{Outcome, model, none_within, never, foreign, spent_rounds, spent_steps, spent_unknowns, spent_chooser}
use Rattle.histories.specs.Calls.{Refusal, Begins, begins, refused_state, put_refusal, put_in, after_put, give_back_refusal, given_back, after_give_back, Reply, refused, in_hand, Searches, search_refused, search_shallow, search_made}
use Rattle.histories.specs.Histories.{Event, began, put, gave_back, searched, modelled, History, new, any_chooser, begin_accepted, begin_refused, begin_refused_other, put_called, give_back_called, search_called, model_called, chooser_used, is_model, some?, Said, SaidOf, CallsSay}
use Rattle.histories.proofs.Histories.{refused_same}

begin_said : (es : List Event) {p : Problem} {S S' : State} {M M' : Meaning} → Begins p S M none S' M' → SaidOf (began p none ∷ es) S'
begin_said es (begins L empty open' room ext) = record { problem = refl; force = λ g. refl; model = refl }

begin_refused_said : (es : List Event) (p : Problem) (r : Refusal) (S : State) → SaidOf es S → SaidOf (began p (some r) ∷ es) S
begin_refused_said es p r not_begun q = q
begin_refused_said es p r (begun s) q = record { problem = q.problem; force = q.force; model = q.model }

put_said : (es : List Event) (s : Session) (g : ℕ) → Said es s → (o : Option Refusal)
    → SaidOf (put g o ∷ es) (refused_state o (begun s) (put_in (begun s) g))
put_said es s g q none = record { problem = q.problem; force = λ h. ap (cond (eqb h g) true) (q.force h); model = refl }
put_said es s g q (some r) = record { problem = q.problem; force = q.force; model = q.model }

after_put_said : (es : List Event) (S : State) (g : ℕ) → SaidOf es S → SaidOf (put g (put_refusal S g) ∷ es) (after_put S g)
after_put_said es not_begun g q = q
after_put_said es (begun s) g q = put_said es s g q (put_refusal (begun s) g)

give_back_said : (es : List Event) (s : Session) (g : ℕ) → Said es s → (o : Option Refusal)
    → SaidOf (gave_back (some g) o ∷ es) (refused_state o (begun s) (given_back (begun s) (some g)))
give_back_said es s g q none = record { problem = q.problem; force = λ h. ap (cond (eqb h g) false) (q.force h); model = refl }
give_back_said es s g q (some r) = record { problem = q.problem; force = q.force; model = q.model }

after_give_back_said : (es : List Event) (S : State) (slip : Option ℕ) → SaidOf es S
    → SaidOf (gave_back slip (give_back_refusal S slip) ∷ es) (after_give_back S slip)
after_give_back_said es not_begun slip q = q
after_give_back_said es (begun s) none q = record { problem = q.problem; force = q.force; model = q.model }
after_give_back_said es (begun s) (some g) q = give_back_said es s g q (give_back_refusal (begun s) (some g))

hand_said : (n steps : ℕ) (o : Outcome) → some? (in_hand n steps o) ≡ is_model o
hand_said n steps (model w) = refl
hand_said n steps none_within = refl
hand_said n steps never = refl
hand_said n steps foreign = refl
hand_said n steps spent_rounds = refl
hand_said n steps (spent_steps g) = refl
hand_said n steps spent_unknowns = refl
hand_said n steps spent_chooser = refl

refused_said : (es : List Event) (n rounds steps : ℕ) (r : Refusal) (S : State) → SaidOf es S
    → SaidOf (searched n rounds steps (refused r) ∷ es) S
refused_said es n rounds steps r not_begun q = q
refused_said es n rounds steps r (begun s) q = record { problem = q.problem; force = q.force; model = q.model }

search_said : (es : List Event) {n rounds steps : ℕ} {buffers : Bool} {S S' : State} {M M' : Meaning} {r : Reply}
    → Searches n rounds steps buffers S M r S' M' → SaidOf es S → SaidOf (searched n rounds steps r ∷ es) S'
search_said es {n} {rounds} {steps} {S = S} (search_refused {r = r} e same) q = refused_said es n rounds steps r S q
search_said es (search_shallow e shallow same) q = record { problem = q.problem; force = q.force; model = refl }
search_said es {n = n} {steps = steps} (search_made {a = a} e deep run) q =
    record { problem = q.problem; force = q.force; model = hand_said n steps a.outcome }

model_said : (es : List Event) (r : Option Refusal) (S : State) → SaidOf es S → SaidOf (modelled r ∷ es) S
model_said es r not_begun q = q
model_said es r (begun s) q = record { problem = q.problem; force = q.force; model = q.model }

said : {es : List Event} {S : State} {M : Meaning} → History es S M → SaidOf es S
said new = refl
said (any_chooser h) = said h
said (begin_accepted {es = es} h b) = begin_said es b
said (begin_refused {es = es} {S = S} {p = p} {r = r} h b) =
    subst (SaidOf (began p (some r) ∷ es)) (refused_same b).1 (begin_refused_said es p r S (said h))
said (begin_refused_other {es = es} {S = S} {p = p} {r = r} h b) =
    subst (SaidOf (began p (some r) ∷ es)) (refused_same b).1 (begin_refused_said es p r S (said h))
said (put_called {es = es} {S = S} g h) = after_put_said es S g (said h)
said (give_back_called {es = es} {S = S} slip h) = after_give_back_said es S slip (said h)
said (search_called {es = es} h s) = search_said es s (said h)
said (model_called {es = es} {S = S} room h) = model_said es _ S (said h)
said (chooser_used h same) = said h

pub calls_say : CallsSay
calls_say es S M h = said h
