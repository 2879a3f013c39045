-- Least depths and needs, computed. Assumes nothing.
use Rattle.std.specs.Prelude.{◌≡◌, List, [], ◌∷◌, cond, ℕ, zero, suc, ◌+◌, ◌-◌, ◌≤◌, max, leb}
use Rattle.std.proofs.Math.Option.{Option, none, some}
use Rattle.syntax.specs.Typing.{Sig, cases_of, arguments}
use Rattle.syntax.specs.Values.{Value, Values, build, v[], ◌v∷◌, cost, Shallow, IsLeast}

abbrev pub both_of : Option Value → Option Values → Option Values
both_of none r = none
both_of (some v) none = none
both_of (some v) (some vs) = some (v v∷ vs)

-- a value of each type, if each has one
abbrev pub all_of : (ℕ → Option Value) → List ℕ → Option Values
all_of s [] = some v[]
all_of s (t ∷ ts) = both_of (s t) (all_of s ts)

abbrev pub build? : ℕ → Option Values → Option Value
build? c none = none
build? c (some vs) = some (build c vs)

abbrev pub or_else : Option Value → Option Value → Option Value
or_else none r = r
or_else (some v) r = some v

-- what the first constructor that gives something gives
abbrev pub first_of : (ℕ → List ℕ → Option Value) → ℕ → List (List ℕ) → Option Value
first_of g c [] = none
first_of g c (ts ∷ cs) = or_else (g c ts) (first_of g (suc c) cs)

-- a value of the type t no deeper than b, found in f rounds
abbrev pub shallow : Sig → ℕ → ℕ → ℕ → Option Value
shallow sig zero b t = none
shallow sig (suc f) b t =
    first_of (λ c ts. cond (leb (cost sig t c) b) (build? c (all_of (shallow sig f (b - cost sig t c)) ts)) none) 0 (cases_of sig t)

abbrev pub at_first : Option Value → ℕ → ℕ → ℕ
at_first none k r = r
at_first (some v) k r = k

-- the first number from k on, of n, at which something is found
abbrev pub first_depth : (ℕ → Option Value) → ℕ → ℕ → ℕ
first_depth s k zero = k
first_depth s k (suc n) = at_first (s k) k (first_depth s (suc k) n)

-- the least depth of a type's values, if that is at most 8, and else 9
abbrev pub least_of : Sig → ℕ → ℕ
least_of sig t = first_depth (λ b. shallow sig b b t) 0 9

abbrev pub greatest : (ℕ → ℕ) → List ℕ → ℕ
greatest f [] = 0
greatest f (t ∷ ts) = max (f t) (greatest f ts)

-- what a constructor needs: its cost, and the greatest least depth among its argument types, if it has any
abbrev pub need_of : Sig → ℕ → ℕ → ℕ
need_of sig t c = cost sig t c + greatest (least_of sig) (arguments sig t c)

-- the computed number is the least depth, in the sense of values, wherever a value no deeper than 8 exists, and else it is 9
pub record LeastIsLeast (sig : Sig) (t : ℕ) : Type 0 where
  pub low : Shallow sig t 8 → IsLeast sig t (least_of sig t)
  pub high : (Shallow sig t 8 → ⊥) → least_of sig t ≡ 9
  pub bound : least_of sig t ≤ 8 → Shallow sig t 8
