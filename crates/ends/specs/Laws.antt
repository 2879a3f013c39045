-- What holds of typed terms and their bytes. Assumes nothing.
use Rattle.std.specs.Prelude.{◌≡◌, ℕ, ◌≤◌, List, ◌++◌, length}
use Rattle.syntax.specs.Terms.{Term, encode}
use Rattle.syntax.specs.Typing.{Sig, HasType}
use Rattle.syntax.specs.Values.{Value, OfType, as_term, OnlyBuilt}

-- No typed term's bytes begin with those of another of the same type and scope.
abbrev pub PrefixFree : Type 0
PrefixFree =
    (sig : Sig) (scope : List ℕ) (ty : ℕ) (t u : Term) (xs ys : List ℕ) → HasType sig scope t ty → HasType sig scope u ty
    → encode t ++ xs ≡ encode u ++ ys → (t ≡ u) × (xs ≡ ys)

-- Each value of a type is a term of constructors alone of that type, each such term is a value's, and no two values have one term.
pub record ValuesAsTerms (sig : Sig) (scope : List ℕ) : Type 0 where
  pub from : (v : Value) (ty : ℕ) → OfType sig ty v → HasType sig scope (as_term sig ty v) ty × OnlyBuilt (as_term sig ty v)
  pub to : (t : Term) (ty : ℕ) → HasType sig scope t ty → OnlyBuilt t → (v : Value) × OfType sig ty v × (as_term sig ty v ≡ t)
  pub only : (v w : Value) (ty : ℕ) → OfType sig ty v → OfType sig ty w → as_term sig ty v ≡ as_term sig ty w → v ≡ w

abbrev pub ValuesAreTerms : Type 0
ValuesAreTerms = (sig : Sig) (scope : List ℕ) → length scope ≤ 64 → ValuesAsTerms sig scope
