-- Bytes as a problem. Assumes nothing.
use Rattle.std.specs.Prelude.{◌≡◌, ℕ, true, List, is_ok, Ok, Err, Result}
use Rattle.verdict.specs.Verdict.{verdict}
use Rattle.problem.specs.Meant.{meant}
use Rattle.problem.specs.declared.problem.Problem.{Problem}
use Rattle.boundary.specs.declared.faults.LoadFault.{LoadFault}
use Rattle.boundary.specs.declared.faults.LoadFault.TheVariants.{BadProblem, NotSearched, NotReplayed, NotTold, NoAnswer, NoMemory}

-- only bytes that are a problem want memory
abbrev pub LoadFailed : List ℕ → LoadFault → Type 0
LoadFailed bs (BadProblem f) = verdict bs ≡ Err f
LoadFailed bs (NotSearched f) = ⊥
LoadFailed bs (NotReplayed f) = ⊥
LoadFailed bs (NotTold f) = ⊥
LoadFailed bs NoAnswer = ⊥
LoadFailed bs NoMemory = is_ok (verdict bs) ≡ true

abbrev pub Loaded : List ℕ → Result Problem LoadFault → Type 0
Loaded bs (Ok p) = verdict bs ≡ Ok (meant p)
Loaded bs (Err f) = LoadFailed bs f
