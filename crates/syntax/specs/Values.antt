-- Values, their types and their depth. Assumes nothing.
use Rattle.std.specs.Prelude.{◌≡◌, List, [], ◌∷◌, ℕ, ◌+◌, ◌<◌, ◌≤◌, max, get_or}
use Rattle.syntax.specs.Terms.{Term, Terms, var, unknown, con, call, case, both, not, equal, t[], ◌t∷◌}
use Rattle.syntax.specs.Typing.{Sig, constructors, arguments}

-- A value: a constructor and the values of its arguments.
infixr 67 ◌v∷◌ ◌of∷◌
mutual
  pub data Value : Type 0 where
    build : ℕ → Values → Value

  pub data Values : Type 0 where
    v[] : Values
    ◌v∷◌ : Value → Values → Values

mutual
  pub data OfType (sig : Sig) : ℕ → Value → Type 0 where
    of_type : {t c : ℕ} {vs : Values} → c < constructors sig t → OfTypes sig (arguments sig t c) vs → OfType sig t (build c vs)

  pub data OfTypes (sig : Sig) : List ℕ → Values → Type 0 where
    of[] : OfTypes sig [] v[]
    ◌of∷◌ : {t : ℕ} {ts : List ℕ} {v : Value} {vs : Values} → OfType sig t v → OfTypes sig ts vs → OfTypes sig (t ∷ ts) (v v∷ vs)

-- what a constructor adds to the depth of its value
abbrev pub cost : Sig → ℕ → ℕ → ℕ
cost sig t c = 1

abbrev pub tail : List ℕ → List ℕ
tail [] = []
tail (t ∷ ts) = ts

-- the depth of a value of the type t: what its constructor costs, and its deepest argument, if it has any
abbrev mutual
  pub depth : Sig → ℕ → Value → ℕ
  depth sig t (build c vs) = cost sig t c + deepest sig (arguments sig t c) vs

  pub deepest : Sig → List ℕ → Values → ℕ
  deepest sig ts v[] = 0
  deepest sig ts (v v∷ vs) = max (depth sig (get_or ts 0 0) v) (deepest sig (tail ts) vs)

-- the type t has a value no deeper than d
pub record Shallow (sig : Sig) (t d : ℕ) : Type 0 where
  pub value : Value
  pub of : OfType sig t value
  pub low : depth sig t value ≤ d

-- some value of the type t has the depth d, and none has less
pub record IsLeast (sig : Sig) (t d : ℕ) : Type 0 where
  pub value : Value
  pub of : OfType sig t value
  pub reached : depth sig t value ≡ d
  pub least : (v : Value) → OfType sig t v → d ≤ depth sig t v

-- a value as a term: constructors alone
abbrev mutual
  pub as_term : Sig → ℕ → Value → Term
  as_term sig ty (build c vs) = con ty c (as_terms sig (arguments sig ty c) vs)

  pub as_terms : Sig → List ℕ → Values → Terms
  as_terms sig ts v[] = t[]
  as_terms sig ts (v v∷ vs) = as_term sig (get_or ts 0 0) v t∷ as_terms sig (tail ts) vs

abbrev mutual
  pub OnlyBuilt : Term → Type 0
  OnlyBuilt (var v) = ⊥
  OnlyBuilt (unknown k) = ⊥
  OnlyBuilt (con t c ts) = AllBuilt ts
  OnlyBuilt (call f ts) = ⊥
  OnlyBuilt (case t u us) = ⊥
  OnlyBuilt (both a b) = ⊥
  OnlyBuilt (not a) = ⊥
  OnlyBuilt (equal t a b) = ⊥

  pub AllBuilt : Terms → Type 0
  AllBuilt t[] = Unit {0}
  AllBuilt (t t∷ ts) = OnlyBuilt t × AllBuilt ts
