-- A session that comes to have a model at hand: a chooser that means what its clauses say, and the ways that it picks.
-- Assumes nothing.
use Rattle.std.proofs.Common.{◌≡◌, ℕ, zero, suc, ◌<◌, Bool, true, false, ◌&&◌, [], ◌∷◌, refl, arith}
use Rattle.chooser.specs.Ways.{lit, every}
use Rattle.chooser.specs.Meaning.{Meaning}
use Rattle.syntax.specs.Terms.{con, t[], ◌t∷◌}
use Rattle.syntax.specs.Typing.{Typed}
use Rattle.syntax.specs.Values.{build, v[], of_type, of[], Shallow}
use Rattle.syntax.specs.Problems.{sig_of, Lawful}
use Rattle.judging.specs.Paths.{root, child}
use Rattle.judging.specs.Examples.{two, is_two}
use Rattle.finder.specs.Levels.{measures}
use Rattle.finder.specs.Ways.{Way}
use Rattle.finder.specs.Asking.{asked}
use Rattle.finder.proofs.Extended.{same_self}
use Rattle.histories.specs.Rounds.{none_within, model, Runs, none_found, conflict_recorded, unknown_opened, model_found, closes, one_opened, one_recorded}
use Rattle.histories.specs.Calls.{begins, search_made}
use Rattle.histories.specs.Histories.{new, begin_accepted, put_called, search_called}
use Rattle.examples.specs.Sessions.{ComesToHand}
use Rattle.examples.proofs.Turns.{mk}
use Rattle.examples.proofs.Values.{none_1, none_2}
use Rattle.examples.proofs.Made.{F₀}
use Rattle.examples.proofs.Two.{force, kid, X₀, X₂, X₄, X₅, F₁, F₂, F₃, F₄, F₅, waits_first, false_first, waits_second, false_second, waits_third, true_third}

zero_typed : Typed (sig_of is_two) [] 1 (con 1 0 t[])
zero_typed = (refl, omega arith, tt)

one_typed : Typed (sig_of is_two) [] 1 (con 1 1 (con 1 0 t[] t∷ t[]))
one_typed = (refl, omega arith, (omega arith, zero_typed, tt))

two_typed : Typed (sig_of is_two) [] 1 two
two_typed = (refl, omega arith, (omega arith, one_typed, tt))

some_value : (t : ℕ) → t < 2 → Shallow (sig_of is_two) t 8
some_value zero l = record { value = build 0 v[]; of = of_type (omega arith) of[]; low = omega arith }
some_value (suc zero) l = record { value = build 0 v[]; of = of_type (omega arith) of[]; low = omega arith }
some_value (suc (suc t)) l = absurd (omega (arith, l))

pub lawful : Lawful is_two
lawful =
    record {
      few_types = omega arith;
      few_functions = omega arith;
      few_unknowns = omega arith;
      few_goals = omega arith;
      of_types = ((omega arith, omega arith, ((omega arith, tt), ((omega arith, (omega arith, tt)), tt))), tt);
      of_functions = tt;
      of_unknowns = (omega arith, tt);
      of_goals = (record { few = omega arith; typed = (refl, omega arith, (omega arith, refl), two_typed) }, tt);
      inhabited = some_value;
      short = omega arith;
    }

-- what the chooser means, stage by stage
abbrev meaning : ℕ → ℕ → ℕ → (Way → Bool) → Meaning
meaning c r l F = record { count = c; room = r; left = l; ways = F }

abbrev M₋ : Meaning
M₋ = meaning 0 101 1000 F₀

abbrev M₀ : Meaning
M₀ = meaning 1 100 1000 F₀

abbrev M₁ : Meaning
M₁ = meaning 3 98 994 F₁

abbrev M₂ : Meaning
M₂ = meaning 3 98 991 F₂

abbrev M₃ : Meaning
M₃ = meaning 5 96 985 F₃

abbrev M₄ : Meaning
M₄ = meaning 5 96 981 F₄

abbrev M₅ : Meaning
M₅ = meaning 7 94 975 F₅

no_way : (x y : Bool) → (x ≡ true → y ≡ true → ⊥) → (x && y) ≡ false
no_way true true f = absurd (f refl refl)
no_way true false f = refl
no_way false y f = refl

abbrev w₁ : Way
w₁ = mk (true ∷ (true ∷ (false ∷ [])))

abbrev w₂ : Way
w₂ = mk (true ∷ (false ∷ (true ∷ [])))

abbrev w₃ : Way
w₃ = mk (true ∷ (false ∷ (true ∷ (true ∷ (false ∷ [])))))

abbrev w₄ : Way
w₄ = mk (true ∷ (false ∷ (true ∷ (false ∷ (true ∷ [])))))

abbrev w₅ : Way
w₅ = mk (true ∷ (false ∷ (true ∷ (false ∷ (true ∷ (true ∷ (false ∷ [])))))))

depth_1 : Runs is_two force 1 512 1000 X₀ M₀ (one_opened (one_recorded (closes none_within))) X₂ M₂
depth_1 =
    unknown_opened {k = 999} {M₁ = M₁} (mk (true ∷ [])) 0 (root 0)
    (record { picked = record { allowed = refl; meets = refl }; decides = refl }) waits_first (omega arith) (omega arith) (omega arith)
    (record { counts = refl; rooms = refl; shrinks = omega arith; spends = omega arith; allows = λ w. refl })
    (conflict_recorded {k = 998} {M₁ = M₂} w₁ 0 (root 0 ∷ []) (record { picked = record { allowed = refl; meets = refl }; decides = refl }) false_first
    (omega arith) (record { counts = refl; rooms = refl; shrinks = omega arith; spends = omega arith; allows = λ w. refl })
    (none_found {k = 997} w₂ (λ w. no_way (F₂ w) (every (lit w) (asked is_two (measures is_two) force 1 X₂.table)) (none_1 (w 0) (w 1) (w 2)))
    (record { allowed = refl; meets = refl }) same_self))

depth_2 : Runs is_two force 2 512 1000 X₂ M₂ (one_opened (one_recorded (closes none_within))) X₄ M₄
depth_2 =
    unknown_opened {k = 999} {M₁ = M₃} w₂ 0 kid (record { picked = record { allowed = refl; meets = refl }; decides = refl }) waits_second
    (omega arith) (omega arith) (omega arith)
    (record { counts = refl; rooms = refl; shrinks = omega arith; spends = omega arith; allows = λ w. refl })
    (conflict_recorded {k = 998} {M₁ = M₄} w₃ 0 (root 0 ∷ (kid ∷ [])) (record { picked = record { allowed = refl; meets = refl }; decides = refl })
    false_second (omega arith) (record { counts = refl; rooms = refl; shrinks = omega arith; spends = omega arith; allows = λ w. refl })
    (none_found {k = 997} w₄
    (λ w. no_way (F₄ w) (every (lit w) (asked is_two (measures is_two) force 2 X₄.table)) (none_2 (w 0) (w 1) (w 2) (w 3) (w 4)))
    (record { allowed = refl; meets = refl }) same_self))

depth_3 : Runs is_two force 3 512 1000 X₄ M₄ (one_opened (closes (model w₅))) X₅ M₅
depth_3 =
    unknown_opened {k = 999} {M₁ = M₅} w₄ 0 (child kid 1 0) (record { picked = record { allowed = refl; meets = refl }; decides = refl }) waits_third
    (omega arith) (omega arith) (omega arith)
    (record { counts = refl; rooms = refl; shrinks = omega arith; spends = omega arith; allows = λ w. refl })
    (model_found {k = 998} w₅ (record { picked = record { allowed = refl; meets = refl }; decides = refl }) true_third same_self)

pub comes_to_hand : ComesToHand
comes_to_hand = (
  _,
  _,
  M₅,
  search_called {n = 3} {rounds = 1000} {steps = 512} {buffers = true}
      (search_called {n = 2} {rounds = 1000} {steps = 512} {buffers = true}
      (search_called {n = 1} {rounds = 1000} {steps = 512} {buffers = true}
      (put_called 0
      (begin_accepted {p = is_two} {M = M₋} (new {M = M₋})
      (begins lawful refl (λ w. refl) (omega arith)
      (record { counts = refl; rooms = refl; shrinks = omega arith; spends = omega arith; allows = λ w. refl }))))
      (search_made refl refl depth_1))
      (search_made refl refl depth_2))
      (search_made refl refl depth_3),
  refl,
)
