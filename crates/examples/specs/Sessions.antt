-- Examples of sessions. Each holds of every chooser, whichever ways it picks. Assumes nothing.
use Rattle.std.specs.Prelude.{◌≡◌, ℕ, ◌≤◌, true, List, [], ◌∷◌}
use Rattle.std.proofs.Math.Option.{some}
use Rattle.chooser.specs.Meaning.{Meaning}
use Rattle.syntax.specs.Terms.{unknown, con, call, both, t[]}
use Rattle.syntax.specs.Problems.{Problem}
use Rattle.judging.specs.Examples.{is_two}
use Rattle.finder.specs.Ways.{Way}
use Rattle.finder.specs.Models.{Partials, o[], ◌o∷◌, built}
use Rattle.histories.specs.States.{AtHand, Session, State, begun, start}
use Rattle.histories.specs.Rounds.{Outcome, model, none_within, never, spent_steps}
use Rattle.histories.specs.Histories.{Event, History, some?}
use Rattle.histories.specs.Calls.{Writes, Reply, answered, after_put, after_give_back, Searches}

-- what a new chooser means once switches for so many goals are allotted; it has plenty of room
pub record Fresh (goals : ℕ) (M : Meaning) : Type 0 where
  pub counts : M.count ≡ goals
  pub allows : (w : Way) → M.ways w ≡ true
  pub rooms : 100 ≤ M.room
  pub leaves : 1000 ≤ M.left

-- a search with 1,000 rounds and 512 steps
abbrev pub Search : ℕ → State → Meaning → Reply → State → Meaning → Type 0
Search n S M r S' M' = Searches n 1000 512 true S M r S' M'

abbrev pub reply : Outcome → (rounds opened recorded : ℕ) → Reply
reply o r c k = answered (record { outcome = o; rounds = r; opened = c; recorded = k })

-- begun with this problem, and its goal 0 in force
abbrev pub forced : Problem → Meaning → State
forced p M = after_put (begun (start p M)) 0

-- a session with a model at hand, which `model` writes as these partial values
pub record HasAtHand (qs : Partials) (S : State) : Type 0 where
  pub session : Session
  pub hand : AtHand
  pub begun_as : S ≡ begun session
  pub at_hand : session.model ≡ some hand
  pub written : Writes session hand qs

-- unknown 0 is 2, as constructors 1(1(0))
abbrev pub two_written : Partials
two_written = built 1 (built 1 (built 0 o[] o∷ o[]) o∷ o[]) o∷ o[]

-- "The unknown is 2", searched to depths 1, 2 and 3: the value is found at depth 3. Then depth 1 is searched again: one round.
pub record TwoFound : Type 0 where
  pub depth_1 : (M M₁ : Meaning) (S₁ : State) (r : Reply) → Fresh 1 M → Search 1 (forced is_two M) M r S₁ M₁
      → r ≡ reply none_within 3 1 1
  pub depth_2 : (M M₁ M₂ : Meaning) (S₁ S₂ : State) (r₁ r : Reply) → Fresh 1 M → Search 1 (forced is_two M) M r₁ S₁ M₁
      → Search 2 S₁ M₁ r S₂ M₂ → r ≡ reply none_within 3 1 1
  pub depth_3 : (M M₁ M₂ M₃ : Meaning) (S₁ S₂ S₃ : State) (r₁ r₂ r : Reply) → Fresh 1 M → Search 1 (forced is_two M) M r₁ S₁ M₁
      → Search 2 S₁ M₁ r₂ S₂ M₂ → Search 3 S₂ M₂ r S₃ M₃ → (w : Way) × (r ≡ reply (model w) 2 1 0) × HasAtHand two_written S₃
  pub again : (M M₁ M₂ M₃ M₄ : Meaning) (S₁ S₂ S₃ S₄ : State) (r₁ r₂ r₃ r : Reply) → Fresh 1 M → Search 1 (forced is_two M) M r₁ S₁ M₁
      → Search 2 S₁ M₁ r₂ S₂ M₂ → Search 3 S₂ M₂ r₃ S₃ M₃ → Search 1 S₃ M₃ r S₄ M₄ → r ≡ reply none_within 1 0 0

-- An unknown of a type with one constructor, over two natural numbers, and no goal.
abbrev pub pairs : Problem
pairs = record { types = ([] ∷ ((1 ∷ []) ∷ [])) ∷ ((1 ∷ (1 ∷ [])) ∷ []) ∷ []; functions = []; unknowns = 2 ∷ []; goals = [] }

-- Depth 1 is below the least depth of the type: no round. At depth 2 there is a model at once.
pub record PairFound : Type 0 where
  pub depth_1 : (M M₁ : Meaning) (S₁ : State) (r : Reply) → Fresh 0 M → Search 1 (begun (start pairs M)) M r S₁ M₁
      → r ≡ reply none_within 0 0 0
  pub depth_2 : (M M₁ : Meaning) (S₁ : State) (r : Reply) → Fresh 0 M → Search 2 (begun (start pairs M)) M r S₁ M₁
      → (w : Way) × (r ≡ reply (model w) 1 0 0)

-- The goal "unknown 0 of Bool, and false".
abbrev pub contradiction : Problem
contradiction = record { types = []; functions = []; unknowns = 0 ∷ []; goals = both (unknown 0) (con 0 0 t[]) ∷ [] }

-- It is never true, whatever the depth; once it is given back there is a model.
pub record NeverTrue : Type 0 where
  pub in_force : (M M₁ : Meaning) (S₁ : State) (r : Reply) → Fresh 1 M → Search 1 (forced contradiction M) M r S₁ M₁
      → r ≡ reply never 2 0 1
  pub given_back : (M M₁ M₂ : Meaning) (S₁ S₂ : State) (r₁ r : Reply) → Fresh 1 M → Search 1 (forced contradiction M) M r₁ S₁ M₁
      → Search 1 (after_give_back S₁ (some 0)) M₁ r S₂ M₂ → (w : Way) × (r ≡ reply (model w) 1 0 0)

-- A goal that calls a function whose body only calls itself.
abbrev pub looping : Problem
looping =
    record {
      types = [];
      functions = record { profile = record { params = []; result = 0 }; body = call 0 t[] } ∷ [];
      unknowns = [];
      goals = call 0 t[] ∷ [];
    }

pub record StepsSpent : Type 0 where
  pub loops_spend : (M M₁ : Meaning) (S₁ : State) (r : Reply) → Fresh 1 M → Search 1 (forced looping M) M r S₁ M₁
      → r ≡ reply (spent_steps 0) 1 0 0

-- There are such sessions: by a begin, a put and searches to depths 1, 2 and 3, a session comes to have the value 2 at hand.
abbrev pub ComesToHand : Type 0
ComesToHand = (es : List Event) × (s : Session) × (M : Meaning) × History es (begun s) M × (some? s.model ≡ true)
