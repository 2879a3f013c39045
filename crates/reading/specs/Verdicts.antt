-- What a check of bytes says of terms. Assumes nothing.
use Rattle.std.specs.Prelude.{◌≡◌, ℕ, ◌+◌, ◌<◌, ◌≤◌, List, ◌++◌, length, take, Ok, Err, Result, ◌≢◌}
use Rattle.syntax.specs.declared.faults.Fault.{Fault}
use Rattle.syntax.specs.Terms.{Term, encode}
use Rattle.syntax.specs.Typing.{Sig, HasType}
use Rattle.reading.specs.Reading.{reading}

-- the bytes are those of exactly one term of the type
pub record OneTerm (sig : Sig) (scope : List ℕ) (ty : ℕ) (bytes : List ℕ) : Type 0 where
  pub term : Term
  pub has : HasType sig scope term ty
  pub is : encode term ≡ bytes
  pub only : (u : Term) → HasType sig scope u ty → encode u ≡ bytes → u ≡ term

abbrev pub NoTerm : Sig → List ℕ → ℕ → List ℕ → Type 0
NoTerm sig scope ty bytes = (t : Term) → HasType sig scope t ty → encode t ≢ bytes

-- no term of the type has these bytes, nor any that begin with those up to and with the one at p
pub record Refused (sig : Sig) (scope : List ℕ) (ty : ℕ) (bytes : List ℕ) (p : ℕ) : Type 0 where
  pub within : p ≤ length bytes
  pub none : NoTerm sig scope ty bytes
  pub begins : p < length bytes → (t : Term) (others : List ℕ) → HasType sig scope t ty → encode t ≢ take (p + 1) bytes ++ others

-- a refusal's place counts from where the first byte stands
pub record RefusedFrom (sig : Sig) (scope : List ℕ) (ty base : ℕ) (bytes : List ℕ) (place : ℕ) : Type 0 where
  pub at : ℕ
  pub is : place ≡ base + at
  pub refused : Refused sig scope ty bytes at

-- accepted exactly if the bytes are those of a term of the type, which is then the only one
abbrev pub Says : Sig → List ℕ → ℕ → ℕ → List ℕ → Result (Unit {0}) Fault → Type 0
Says sig scope ty base bytes (Ok u) = OneTerm sig scope ty bytes
Says sig scope ty base bytes (Err f) = RefusedFrom sig scope ty base bytes f.place

-- what is read is a term of the type with these bytes, and each such term is read
pub record ReadsTerms (sig : Sig) (scope : List ℕ) (ty base : ℕ) (bytes : List ℕ) (t : Term) : Type 0 where
  pub sound : reading sig scope ty base bytes ≡ Ok t → HasType sig scope t ty × (encode t ≡ bytes)
  pub complete : HasType sig scope t ty → encode t ≡ bytes → reading sig scope ty base bytes ≡ Ok t

abbrev pub ReadingIsExact : Type 0
ReadingIsExact = (sig : Sig) (scope : List ℕ) (ty base : ℕ) (bytes : List ℕ) (t : Term) → ReadsTerms sig scope ty base bytes t
