-- Which terms have a type, given what a problem declares. Assumes nothing.
use Rattle.std.specs.Prelude.{◌≡◌, List, [], ◌∷◌, ◌++◌, map, ℕ, ◌<◌, ◌≤◌, Bool, ◌&&◌, ◌==◌, nat_lt, length, get_or, slice_index}
use Rattle.syntax.specs.Terms.{Term, Terms, var, unknown, con, call, case, both, not, equal, t[], ◌t∷◌}

-- what a function takes and gives
pub record Profile : Type 0 where
  pub params : List ℕ
  pub result : ℕ

-- What a problem declares: its types, each the list of its constructors, each the list of its argument types; Bool is the first.
pub record Sig : Type 0 where
  pub types : List (List (List ℕ))
  pub functions : List Profile
  pub unknowns : List ℕ

abbrev pub Declared : Sig → ℕ → Type 0
Declared sig t = t < length sig.types

abbrev pub cases_of : Sig → ℕ → List (List ℕ)
cases_of sig t = get_or sig.types t []

abbrev pub constructors : Sig → ℕ → ℕ
constructors sig t = length (cases_of sig t)

abbrev pub arguments : Sig → ℕ → ℕ → List ℕ
arguments sig t c = get_or (cases_of sig t) c []

abbrev pub no_profile : Profile
no_profile = record { params = []; result = 0 }

abbrev pub params_of : Sig → ℕ → List ℕ
params_of sig f = (get_or sig.functions f no_profile).params

abbrev pub result_of : Sig → ℕ → ℕ
result_of sig f = (get_or sig.functions f no_profile).result

-- A term is wanted: its type, and the types of the variables in scope, variable 0 first.
pub record Want : Type 0 where
  pub ty : ℕ
  pub scope : List ℕ

abbrev pub want : List ℕ → ℕ → Want
want s ty = record { ty = ty; scope = s }

-- a term for each type, with the same variables
abbrev pub each_of : List ℕ → List ℕ → List Want
each_of s tys = map (want s) tys

-- a branch for each constructor, whose arguments are the next variables
abbrev pub branches_of : List ℕ → ℕ → List (List ℕ) → List Want
branches_of s ty cs = map (λ tys. want (s ++ tys) ty) cs

-- the i-th of a list is x; and the same as a test
abbrev pub Stands : List ℕ → ℕ → ℕ → Type 0
Stands s i x = (i < length s) × (get_or s i 0 ≡ x)

abbrev pub stands : List ℕ → ℕ → ℕ → Bool
stands s i x = nat_lt i (length s) && slice_index s i == x

abbrev mutual
  pub Typed : Sig → List ℕ → ℕ → Term → Type 0
  Typed sig s ty (var v) = Stands s v ty
  Typed sig s ty (unknown k) = Stands sig.unknowns k ty
  Typed sig s ty (con t c ts) = (t ≡ ty) × (c < constructors sig ty) × AllTyped sig (each_of s (arguments sig ty c)) ts
  Typed sig s ty (call f ts) = (f < length sig.functions) × (result_of sig f ≡ ty) × AllTyped sig (each_of s (params_of sig f)) ts
  Typed sig s ty (case t u us) = Declared sig t × Typed sig s t u × AllTyped sig (branches_of s ty (cases_of sig t)) us
  Typed sig s ty (both a b) = (ty ≡ 0) × Typed sig s 0 a × Typed sig s 0 b
  Typed sig s ty (not a) = (ty ≡ 0) × Typed sig s 0 a
  Typed sig s ty (equal t a b) = (ty ≡ 0) × Declared sig t × Typed sig s t a × Typed sig s t b

  -- one term for each want, with at most 64 variables in scope
  pub AllTyped : Sig → List Want → Terms → Type 0
  AllTyped sig [] t[] = Unit {0}
  AllTyped sig (w ∷ ws) t[] = ⊥
  AllTyped sig [] (t t∷ ts) = ⊥
  AllTyped sig (w ∷ ws) (t t∷ ts) = (length w.scope ≤ 64) × Typed sig w.scope w.ty t × AllTyped sig ws ts

-- t is a term of the type ty, with variables of the types in scope
pub record HasType (sig : Sig) (scope : List ℕ) (t : Term) (ty : ℕ) : Type 0 where
  pub few : length scope ≤ 64
  pub typed : Typed sig scope ty t
