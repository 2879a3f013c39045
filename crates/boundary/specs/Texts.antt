-- Text of answers and models. Assumes nothing.
use Rattle.std.specs.Prelude.{◌≡◌, ℕ, true, List, is_ok, Ok, Err, Result}
use Rattle.verdict.specs.Verdict.{verdict, decoded}
use Rattle.answers.specs.declared.answer.Answer.{Answer}
use Rattle.telling.specs.Lines.{line_text}
use Rattle.telling.specs.Told.{Told}
use Rattle.telling.specs.Shown.{Shown}
use Rattle.boundary.specs.declared.answering.DepthAnswer.{DepthAnswer}
use Rattle.boundary.specs.declared.faults.LoadFault.{LoadFault}
use Rattle.boundary.specs.declared.faults.LoadFault.TheVariants.{BadProblem, NotSearched, NotReplayed, NotTold, NoAnswer, NoMemory}
use Rattle.boundary.specs.Answering.{as_written}

abbrev pub LineFailed : ℕ → DepthAnswer → List ℕ → List ℕ → LoadFault → Type 0
LineFailed depth d before after (BadProblem f) = ⊥
LineFailed depth d before after (NotSearched f) = ⊥
LineFailed depth d before after (NotReplayed f) = ⊥
LineFailed depth d before after (NotTold f) = (a : Answer) × (as_written a ≡ d) × Told (line_text depth a) before after (Err f)
LineFailed depth d before after NoAnswer = ((a : Answer) → as_written a ≡ d → ⊥) × (after ≡ before)
LineFailed depth d before after NoMemory = ⊥

-- the line of the answer that is written so
abbrev pub Lined : ℕ → DepthAnswer → List ℕ → List ℕ → Result ℕ LoadFault → Type 0
Lined depth d before after (Ok n) = (a : Answer) × (as_written a ≡ d) × Told (line_text depth a) before after (Ok n)
Lined depth d before after (Err f) = LineFailed depth d before after f

abbrev pub ShowFailed : List ℕ → List ℕ → List ℕ → List ℕ → LoadFault → Type 0
ShowFailed bs model before after (BadProblem f) = (verdict bs ≡ Err f) × (after ≡ before)
ShowFailed bs model before after (NotSearched f) = ⊥
ShowFailed bs model before after (NotReplayed f) = ⊥
ShowFailed bs model before after (NotTold f) = (is_ok (verdict bs) ≡ true) × Shown (decoded bs) model before after (Err f)
ShowFailed bs model before after NoAnswer = ⊥
ShowFailed bs model before after NoMemory = (is_ok (verdict bs) ≡ true) × (after ≡ before)

-- the text of a model of the problem that the bytes are
abbrev pub Showed : List ℕ → List ℕ → List ℕ → List ℕ → Result ℕ LoadFault → Type 0
Showed bs model before after (Ok n) = (is_ok (verdict bs) ≡ true) × Shown (decoded bs) model before after (Ok n)
Showed bs model before after (Err f) = ShowFailed bs model before after f
