-- What each call does to a session, and when it refuses. A refused call changes nothing. Assumes nothing.
use Rattle.std.specs.Prelude.{◌≡◌, ℕ, ◌<◌, ◌≤◌, Bool, true, false, cond, ◌&&◌, ◌⊎◌, [], length, ◌==◌, nat_le, nat_lt}
use Rattle.std.proofs.Math.Option.{Option, none, some}
use Rattle.chooser.specs.Meaning.{Meaning, Same}
use Rattle.chooser.specs.Faults.{fault_number}
use Rattle.chooser.specs.declared.Fault.TheVariants.{NoVariable}
use Rattle.syntax.specs.Problems.{Problem, Lawful}
use Rattle.finder.specs.Levels.{measures, too_shallow}
use Rattle.finder.specs.Ways.{Way, decided}
use Rattle.finder.specs.Clauses.{Extended}
use Rattle.finder.specs.Models.{Partials, ModelOf}
use Rattle.histories.specs.States.{AtHand, Session, State, not_begun, begun, start}
use Rattle.histories.specs.Rounds.{Outcome, model, none_within, never, foreign, spent_rounds, spent_steps, spent_unknowns, spent_chooser, Answer, no_round, Known, Runs}

-- A refusal: its number, and the number of the fault that it carries inside, if it carries one.
pub record Refusal : Type 0 where
  pub number : ℕ
  pub inside : Option ℕ

abbrev pub plain : ℕ → Refusal
plain r = record { number = r; inside = none }

-- `begin` takes a lawful problem and a chooser with no variables that allows its one way. (There is only one way to give no
-- variables values, so a chooser with none allows every function from variables or no function.) It allots a switch for each goal.
pub data Begins (p : Problem) (S : State) (M : Meaning) : Option Refusal → State → Meaning → Type 0 where
  not_new : {M' : Meaning} → (0 < M.count) ⊎ ((w : Way) → M.ways w ≡ false) → Same M M' → Begins p S M (some (plain 20)) S M'
  too_few : {M' : Meaning} → M.count ≡ 0 → ((w : Way) → M.ways w ≡ true) → M.room < length p.goals → Same M M'
      → Begins p S M (some (record { number = 21; inside = some (fault_number NoVariable) })) S M'
  begins : {M' : Meaning} → Lawful p → M.count ≡ 0 → ((w : Way) → M.ways w ≡ true) → length p.goals ≤ M.room
      → Extended M M' (length p.goals) [] → Begins p S M none (begun (start p M')) M'

-- the session with this force, and no model at hand
abbrev pub with_force : Session → (ℕ → Bool) → Session
with_force s f =
    record {
      problem = s.problem;
      table = s.table;
      conflicts = s.conflicts;
      force = f;
      count = s.count;
      left = s.left;
      model = none;
    }

abbrev pub forcing : (ℕ → Bool) → ℕ → Bool → ℕ → Bool
forcing f g b h = cond (h == g) b (f h)

abbrev pub refused_state : Option Refusal → State → State → State
refused_state none S S' = S'
refused_state (some r) S S' = S

-- `put` brings the goal g into force.
abbrev pub put_refusal : State → ℕ → Option Refusal
put_refusal not_begun g = some (plain 30)
put_refusal (begun s) g = cond (nat_lt g (length s.problem.goals)) (cond (s.force g) (some (plain 31)) none) (some (plain 30))

abbrev pub put_in : State → ℕ → State
put_in not_begun g = not_begun
put_in (begun s) g = begun (with_force s (forcing s.force g true))

abbrev pub after_put : State → ℕ → State
after_put S g = refused_state (put_refusal S g) S (put_in S g)

-- `give back` takes a slip, which is of a goal or blank, and ends the goal's force.
abbrev pub is_forced : State → Option ℕ → Bool
is_forced not_begun slip = false
is_forced (begun s) none = false
is_forced (begun s) (some g) = nat_lt g (length s.problem.goals) && s.force g

abbrev pub give_back_refusal : State → Option ℕ → Option Refusal
give_back_refusal S slip = cond (is_forced S slip) none (some (plain 32))

abbrev pub given_back : State → Option ℕ → State
given_back not_begun slip = not_begun
given_back (begun s) none = begun s
given_back (begun s) (some g) = begun (with_force s (forcing s.force g false))

abbrev pub after_give_back : State → Option ℕ → State
after_give_back S slip = refused_state (give_back_refusal S slip) S (given_back S slip)

-- `model` writes the model at hand, if its output has room, and changes nothing.
abbrev pub hand_refusal : Option AtHand → Bool → Option Refusal
hand_refusal none room = some (plain 45)
hand_refusal (some m) room = cond room none (some (plain 46))

abbrev pub model_refusal : State → Bool → Option Refusal
model_refusal not_begun room = some (plain 45)
model_refusal (begun s) room = hand_refusal s.model room

-- the partial values that `model` writes
abbrev pub Writes : Session → AtHand → Partials → Type 0
Writes s m qs = ModelOf s.problem (decided s.problem s.table m.way) qs

-- `search` to depth n, with so many rounds and steps; whether its buffers suffice is for the code to say.
abbrev pub seen : State → Meaning → Bool
seen not_begun M = false
seen (begun s) M = M.count == s.count && M.left == s.left

abbrev pub between : ℕ → ℕ → ℕ → Bool
between low high x = nat_le low x && nat_le x high

abbrev pub search_refusal : State → Meaning → (n rounds steps : ℕ) → (buffers : Bool) → Option Refusal
search_refusal S M n rounds steps buffers =
    cond (between 1 64 n) (cond (between 1 65535 rounds && between 1 4096 steps) (cond buffers (cond (seen S M) none (some (plain 43))) (some (plain 42)))
    (some (plain 41))) (some (plain 40))

pub data Reply : Type 0 where
  refused : Refusal → Reply
  answered : Answer → Reply

abbrev pub in_hand : ℕ → ℕ → Outcome → Option AtHand
in_hand n steps (model w) = some (record { way = w; depth = n; steps = steps })
in_hand n steps none_within = none
in_hand n steps never = none
in_hand n steps foreign = none
in_hand n steps spent_rounds = none
in_hand n steps (spent_steps g) = none
in_hand n steps spent_unknowns = none
in_hand n steps spent_chooser = none

-- the session after a search that came to this
abbrev pub after_search : Session → Known → Meaning → ℕ → ℕ → Outcome → Session
after_search s X M n steps o =
    record {
      problem = s.problem;
      table = X.table;
      conflicts = X.conflicts;
      force = s.force;
      count = M.count;
      left = M.left;
      model = in_hand n steps o;
    }

abbrev pub known : Session → Known
known s = record { table = s.table; conflicts = s.conflicts }

pub data Searches (n rounds steps : ℕ) (buffers : Bool) : State → Meaning → Reply → State → Meaning → Type 0 where
  search_refused : {S : State} {M M' : Meaning} {r : Refusal} → search_refusal S M n rounds steps buffers ≡ some r → Same M M'
      → Searches n rounds steps buffers S M (refused r) S M'
  -- below the least depth of some unknown's type there is nothing to find
  search_shallow : {s : Session} {M M' : Meaning} → search_refusal (begun s) M n rounds steps buffers ≡ none
      → too_shallow s.problem (measures s.problem) n ≡ true → Same M M'
      → Searches n rounds steps buffers (begun s) M (answered (no_round none_within)) (begun (after_search s (known s) M' n steps none_within)) M'
  search_made : {s : Session} {M M' : Meaning} {X : Known} {a : Answer} → search_refusal (begun s) M n rounds steps buffers ≡ none
      → too_shallow s.problem (measures s.problem) n ≡ false → Runs s.problem s.force n steps rounds (known s) M a X M'
      → Searches n rounds steps buffers (begun s) M (answered a) (begun (after_search s X M' n steps a.outcome)) M'
