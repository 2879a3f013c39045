-- Replaying a model: the refusals in their order, and the byte of each goal. Assumes nothing.
use Rattle.std.specs.Prelude.{◌≡◌, ℕ, ◌*◌, ◌<◌, cond, ◌&&◌, List, length, Ok, Err, Result, ◌==◌, nat_le, slice_index}
use Rattle.syntax.specs.declared.faults.Fault.{Fault}
use Rattle.syntax.specs.Problems.{Problem}
use Rattle.judging.specs.Held.{goal}
use Rattle.judging.specs.Judging.{Unknowns, judge}
use Rattle.judge.specs.Outcomes.{outcome, byte_of}
use Rattle.model.specs.Reading.{reading}
use Rattle.model.specs.Places.{decided_by}
use Rattle.replay.specs.declared.faults.ReplayFault.{ReplayFault}
use Rattle.replay.specs.declared.faults.ReplayFault.TheVariants.{Steps, Places, AnswerLength, BadModel}

-- the byte for a goal, by the judgement with so many steps
abbrev pub answer_of : Problem → Unknowns ℕ → ℕ → ℕ → ℕ
answer_of p K steps g = byte_of (outcome (judge p K (goal p g) steps))

abbrev pub whole : Result (List ℕ) Fault → Result (List ℕ) ReplayFault
whole (Ok roots) = Ok roots
whole (Err e) = Err (BadModel e)

-- the places of the values, or the first refusal: with so many steps, places and bytes of answer
abbrev pub accepted : Problem → List ℕ → ℕ → ℕ → ℕ → Result (List ℕ) ReplayFault
accepted p bytes steps places n =
    cond (nat_le 1 steps && nat_le steps 4096)
    (cond (nat_le (6 * steps) places) (cond (n == length p.goals) (whole (reading p bytes)) (Err AnswerLength)) (Err Places))
    (Err Steps)

abbrev pub Replayed : {U : Type 0} → Problem → List ℕ → ℕ → ℕ → List ℕ → List ℕ → Result U ReplayFault → Type 0
Replayed p bytes steps places before after (Ok u) =
    (roots : List ℕ) × (accepted p bytes steps places (length before) ≡ Ok roots)
    × ((g : ℕ) → g < length p.goals → slice_index after g ≡ answer_of p (decided_by p bytes roots) steps g)
Replayed p bytes steps places before after (Err e) = (accepted p bytes steps places (length before) ≡ Err e) × (after ≡ before)
