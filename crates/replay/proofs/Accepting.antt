-- A replay is accepted where no refusal holds; its unknowns are those of the model that was read.
use Rattle.std.proofs.Common.{◌≡◌, ℕ, ◌*◌, ◌≤◌, Bool, cond, eqb, leb, List, length, Ok, Err, Result, ap, ◌∙◌}
use Rattle.std.proofs.lemmas.Bool.{le-leb, eq-eqb, and_from}
use Rattle.syntax.specs.Problems.{Problem as Meaning}
use Rattle.problem.specs.declared.problem.Problem.{Problem}
use Rattle.problem.specs.Meant.{meant}
use Rattle.model.specs.declared.model.Model.{Model}
use Rattle.model.specs.Models.{Holds}
use Rattle.model.specs.Reading.{reading}
use Rattle.model.specs.Places.{decided_by}
use Rattle.replay.specs.declared.faults.ReplayFault.{ReplayFault}
use Rattle.replay.specs.declared.faults.ReplayFault.TheVariants.{Steps, Places, AnswerLength}
use Rattle.replay.specs.Replays.{answer_of, whole, accepted}

pub is_accepted : (p : Meaning) (bytes roots : List ℕ) (steps places n : ℕ) → 1 ≤ steps → steps ≤ 4096 → 6 * steps ≤ places → n ≡ length p.goals
    → reading p bytes ≡ Ok roots → accepted p bytes steps places n ≡ Ok roots
is_accepted p bytes roots steps places n low high room long ok =
    let three : Result (List ℕ) ReplayFault = whole (reading p bytes) in
    let two : Result (List ℕ) ReplayFault = cond (eqb n (length p.goals)) three (Err AnswerLength) in
    let one : Result (List ℕ) ReplayFault = cond (leb (6 * steps) places) two (Err Places) in
    ap (λ (b : Bool). cond b one (Err Steps)) (and_from (leb 1 steps) (leb steps 4096) (le-leb 1 steps low) (le-leb steps 4096 high))
    ∙ ap (λ (b : Bool). cond b two (Err Places)) (le-leb (6 * steps) places room)
    ∙ ap (λ (b : Bool). cond b three (Err AnswerLength)) (eq-eqb n (length p.goals) long)
    ∙ ap whole ok

pub same_answer : (p : Problem) (bytes roots : List ℕ) (m : Model Problem) (steps g : ℕ) → Holds p bytes roots m
    → answer_of (meant p) (decided_by (meant m.problem.now) m.bytes.now m.roots.items) steps g
    ≡ answer_of (meant p) (decided_by (meant p) bytes roots) steps g
same_answer p bytes roots m steps g h =
    ap (λ (q : Problem). answer_of (meant p) (decided_by (meant q) m.bytes.now m.roots.items) steps g) h.problem_is
    ∙ ap (λ (bs : List ℕ). answer_of (meant p) (decided_by (meant p) bs m.roots.items) steps g) h.bytes_is
    ∙ ap (λ (rs : List ℕ). answer_of (meant p) (decided_by (meant p) bytes rs) steps g) h.roots_is
