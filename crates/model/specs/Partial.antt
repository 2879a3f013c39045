-- Partial values, of which some parts are open, and the bytes that write one for each unknown. Assumes nothing.
use Rattle.std.specs.Prelude.{◌≡◌, ℕ, ◌+◌, ◌<◌, ◌≤◌, List, [], ◌∷◌, ◌++◌, length, slice_index}
use Rattle.syntax.specs.Typing.{Sig, constructors, arguments}
use Rattle.syntax.specs.Values.{tail}
use Rattle.syntax.specs.Problems.{Problem, sig_of}

infixr 67 ◌p∷◌
mutual
  pub data Partial : Type 0 where
    open_part : Partial
    built : ℕ → Partials → Partial

  pub data Partials : Type 0 where
    p[] : Partials
    ◌p∷◌ : Partial → Partials → Partials

-- a partial value of the type t
abbrev mutual
  pub OfType : Sig → ℕ → Partial → Type 0
  OfType sig t open_part = Unit {0}
  OfType sig t (built c ps) = (c < constructors sig t) × OfTypes sig (arguments sig t c) ps

  pub OfTypes : Sig → List ℕ → Partials → Type 0
  OfTypes sig [] p[] = Unit {0}
  OfTypes sig [] (p p∷ ps) = ⊥
  OfTypes sig (t ∷ ts) p[] = ⊥
  OfTypes sig (t ∷ ts) (p p∷ ps) = OfType sig t p × OfTypes sig ts ps

-- A value is written as the term that it is. An open part is the byte 8.
abbrev mutual
  pub written : Sig → ℕ → Partial → List ℕ
  written sig t open_part = 8 ∷ []
  written sig t (built c ps) = 2 ∷ (t ∷ (c ∷ all_written sig (arguments sig t c) ps))

  pub all_written : Sig → List ℕ → Partials → List ℕ
  all_written sig ts p[] = []
  all_written sig ts (p p∷ ps) = written sig (slice_index ts 0) p ++ all_written sig (tail ts) ps

-- For each unknown, from number k on: a mark of two bytes, its number, and its value.
abbrev pub encode_from : Sig → ℕ → List ℕ → Partials → List ℕ
encode_from sig k ts p[] = []
encode_from sig k ts (p p∷ ps) = 0x4D ∷ (0x44 ∷ (k ∷ (written sig (slice_index ts 0) p ++ encode_from sig (k + 1) (tail ts) ps)))

abbrev pub encode_model : Problem → Partials → List ℕ
encode_model p ps = encode_from (sig_of p) 0 p.unknowns ps

-- the bytes write a partial value of its type for each unknown
pub record Writes (p : Problem) (bytes : List ℕ) (ps : Partials) : Type 0 where
  pub typed : OfTypes (sig_of p) p.unknowns ps
  pub is : bytes ≡ encode_model p ps
  pub short : length bytes ≤ 16384
