-- A replay of bytes. Assumes nothing.
use Rattle.std.specs.Prelude.{◌≡◌, ℕ, ◌*◌, ◌<◌, true, cond, List, length, drop, is_ok, Ok, Err, Result, nat_le, slice_index}
use Rattle.syntax.specs.Problems.{Problem}
use Rattle.verdict.specs.Verdict.{verdict, decoded}
use Rattle.model.specs.Places.{decided_by}
use Rattle.replay.specs.Replays.{answer_of, accepted}
use Rattle.boundary.specs.declared.faults.LoadFault.{LoadFault}
use Rattle.boundary.specs.declared.faults.LoadFault.TheVariants.{BadProblem, NotSearched, NotReplayed, NotTold, NoAnswer, NoMemory}

-- how many bytes of the answer are for goals
abbrev pub goal_bytes : Problem → List ℕ → ℕ
goal_bytes p answer = cond (nat_le (length p.goals) (length answer)) (length p.goals) (length answer)

-- The judge has memory for all steps that a replay allows. So only steps, an answer without a byte for each goal, and a model's own
-- faults are refused.
abbrev pub JudgeFailed : List ℕ → List ℕ → ℕ → List ℕ → LoadFault → Type 0
JudgeFailed bs model steps answer (BadProblem f) = verdict bs ≡ Err f
JudgeFailed bs model steps answer (NotSearched f) = ⊥
JudgeFailed bs model steps answer (NotReplayed f) = (is_ok (verdict bs) ≡ true) × (accepted (decoded bs) model steps (6 * steps) (goal_bytes (decoded bs) answer) ≡ Err f)
JudgeFailed bs model steps answer (NotTold f) = ⊥
JudgeFailed bs model steps answer NoAnswer = ⊥
JudgeFailed bs model steps answer NoMemory = is_ok (verdict bs) ≡ true

-- each goal's byte is by the judgement with so many steps under what the model decides; the rest of the answer stays
pub record JudgedBy (p : Problem) (model : List ℕ) (steps : ℕ) (before after : List ℕ) (count : ℕ) : Type 0 where
  pub counts : count ≡ length p.goals
  pub roots : List ℕ
  pub reads : accepted p model steps (6 * steps) (length p.goals) ≡ Ok roots
  pub judged : (g : ℕ) → g < length p.goals → slice_index after g ≡ answer_of p (decided_by p model roots) steps g
  pub rest : drop (length p.goals) after ≡ drop (length p.goals) before
  pub long : length after ≡ length before

abbrev pub Judged : List ℕ → List ℕ → ℕ → List ℕ → List ℕ → Result ℕ LoadFault → Type 0
Judged bs model steps before after (Ok n) = (is_ok (verdict bs) ≡ true) × JudgedBy (decoded bs) model steps before after n
Judged bs model steps before after (Err f) = JudgeFailed bs model steps before f
