-- The text of a model: a line for each unknown, with its value by constructor numbers. Assumes nothing.
use Rattle.std.specs.Prelude.{◌≡◌, ℕ, ◌+◌, cond, List, [], ◌++◌, codes, decimal, Err, Result, ◌==◌}
use Rattle.syntax.specs.declared.faults.Fault.{Fault}
use Rattle.syntax.specs.Problems.{Problem}
use Rattle.model.specs.Partial.{Partial, open_part, built, Partials, p[], ◌p∷◌, Writes}
use Rattle.model.specs.Reading.{reading}
use Rattle.telling.specs.Lines.{labelled}
use Rattle.telling.specs.Told.{Told}
use Rattle.telling.specs.declared.faults.TellFault.{TellFault}
use Rattle.telling.specs.declared.faults.TellFault.TheVariants.{BadModel}

-- what stands before the argument with this number, and behind so many arguments
abbrev pub opening : ℕ → List ℕ
opening i = cond (i == 0) (codes "(") (codes ",")

abbrev pub closing : ℕ → List ℕ
closing n = cond (n == 0) [] (codes ")")

abbrev mutual
  pub value_text : Partial → List ℕ
  value_text open_part = codes "?"
  value_text (built c ps) = decimal c ++ arguments_text 0 ps

  -- the arguments from this number on
  pub arguments_text : ℕ → Partials → List ℕ
  arguments_text i p[] = closing i
  arguments_text i (p p∷ ps) = opening i ++ value_text p ++ arguments_text (i + 1) ps

abbrev pub unknown_text : ℕ → Partial → List ℕ
unknown_text k p = labelled (codes "unknown ") k ++ codes " = " ++ value_text p ++ codes "\n"

-- the unknowns from this number on
abbrev pub unknowns_text : ℕ → Partials → List ℕ
unknowns_text k p[] = []
unknowns_text k (p p∷ ps) = unknown_text k p ++ unknowns_text (k + 1) ps

abbrev pub model_text : Partials → List ℕ
model_text ps = unknowns_text 0 ps

-- Bytes that are no model are refused with the reader's fault. Of a model its text is told.
pub record Shown (p : Problem) (bytes before after : List ℕ) (r : Result ℕ TellFault) : Type 0 where
  pub refused : (e : Fault) → reading p bytes ≡ Err e → (r ≡ Err (BadModel e)) × (after ≡ before)
  pub told : (ps : Partials) → Writes p bytes ps → Told (model_text ps) before after r
