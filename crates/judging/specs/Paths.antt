-- Unknowns as paths, of which there is no end, and decisions on them. Assumes nothing.
use Rattle.std.specs.Prelude.{ℕ, zero, suc, List, [], ◌∷◌, length, slice_index}
use Rattle.std.proofs.Math.Option.{Option}
use Rattle.syntax.specs.Typing.{Sig, arguments}
use Rattle.syntax.specs.Problems.{Problem, sig_of}
use Rattle.judging.specs.Judging.{Unknowns}

-- An unknown: one of the problem, or argument j of what an unknown is under its constructor c.
pub data Path : Type 0 where
  root : ℕ → Path
  child : Path → (c j : ℕ) → Path

-- the constructor of each unknown that is decided
abbrev pub Decision : Type 0
Decision = Path → Option ℕ

abbrev pub type_of : Sig → Path → ℕ
type_of sig (root k) = slice_index sig.unknowns k
type_of sig (child u c j) = slice_index (arguments sig (type_of sig u) c) j

-- n children of u under its constructor c, from argument j on
abbrev pub children_from : Path → ℕ → ℕ → ℕ → List Path
children_from u c j zero = []
children_from u c j (suc n) = child u c j ∷ children_from u c (suc j) n

abbrev pub children : Sig → Path → ℕ → List Path
children sig u c = children_from u c 0 (length (arguments sig (type_of sig u) c))

-- the unknowns of a problem under a decision
abbrev pub under : Problem → Decision → Unknowns Path
under p δ = record { roots = root; kids = children (sig_of p); chosen = δ }
