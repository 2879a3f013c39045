-- Held terms: what is judged. U is a type of unknowns: paths, numbers of a table, or places of a written model. Assumes nothing.
use Rattle.std.specs.Prelude.{ℕ, zero, suc, List, [], ◌∷◌, get_or, slice_index_or}
use Rattle.syntax.specs.Terms.{Term, con, Terms, t[], ◌t∷◌}
use Rattle.syntax.specs.Typing.{no_profile}
use Rattle.syntax.specs.Problems.{Function, Problem}

-- A held term: a term with its environment, or an unknown. Variable v is bound to the v-th of the environment.
infixr 67 ◌h∷◌
mutual
  pub data Held (U : Type 0) : Type 0 where
    hold : Term → Helds U → Held U
    free : U → Held U

  pub data Helds (U : Type 0) : Type 0 where
    h[] : Helds U
    ◌h∷◌ : Held U → Helds U → Helds U

-- What no typed term comes to (a variable with no binding, a constructor with no branch, a function that is not declared,
-- a goal that is not there) is held to be the term false.
abbrev pub missing : Term
missing = con 0 0 t[]

abbrev pub branch : Terms → ℕ → Term
branch t[] c = missing
branch (t t∷ ts) zero = t
branch (t t∷ ts) (suc c) = branch ts c

abbrev pub no_function : Function
no_function = record { profile = no_profile; body = missing }

abbrev pub body_of : Problem → ℕ → Term
body_of p f = (get_or p.functions f no_function).body

module _ {U : Type 0} where
  abbrev pub bound : Helds U → ℕ → Held U
  bound h[] v = hold missing h[]
  bound (h h∷ ρ) zero = h
  bound (h h∷ ρ) (suc v) = bound ρ v

  -- terms, each held with the environment ρ
  abbrev pub holds : Terms → Helds U → Helds U
  holds t[] ρ = h[]
  holds (t t∷ ts) ρ = hold t ρ h∷ holds ts ρ

  abbrev pub frees : List U → Helds U
  frees [] = h[]
  frees (u ∷ us) = free u h∷ frees us

  infixr 66 ◌h++◌
  abbrev pub ◌h++◌ : Helds U → Helds U → Helds U
  h[] h++ xs = xs
  (h h∷ ρ) h++ xs = h h∷ (ρ h++ xs)

-- a goal is held with no variables
abbrev pub goal : {U : Type 0} → Problem → ℕ → Held U
goal p g = hold (slice_index_or p.goals g missing) h[]
