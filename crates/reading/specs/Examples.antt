-- Readings, computed: one or more for each rule on where a term is refused. Assumes nothing.
use Rattle.std.specs.Prelude.{◌≡◌, ℕ, List, [], ◌∷◌, ◌++◌, replicate, Ok, Err, refl}
use Rattle.syntax.specs.Terms.{Term, var, unknown, con, call, case, both, not, equal, t[], ◌t∷◌, encode}
use Rattle.syntax.specs.Typing.{Sig}
use Rattle.reading.specs.Reading.{reading}

-- Bool, the naturals, a type of one constructor over six naturals; a function from Bool to the naturals; an unknown natural
abbrev sig : Sig
sig = record {
  types = ([] ∷ ([] ∷ [])) ∷ (([] ∷ ((1 ∷ []) ∷ [])) ∷ ((replicate 6 1 ∷ []) ∷ []));
  functions = record { params = 0 ∷ []; result = 1 } ∷ [];
  unknowns = 1 ∷ [];
}

abbrev zero : Term
zero = con 1 0 t[]

abbrev succ : Term → Term
succ n = con 1 1 (n t∷ t[])

abbrev false : Term
false = con 0 0 t[]

-- unknown 0 equals 2
ex_goal : reading sig [] 0 9 (7 ∷ 1 ∷ 1 ∷ 0 ∷ 2 ∷ 1 ∷ 1 ∷ 2 ∷ 1 ∷ 1 ∷ 2 ∷ 1 ∷ 0 ∷ []) ≡ Ok (equal 1 (unknown 0) (succ (succ zero)))
ex_goal = refl

-- case unknown 0 of zero: false; succ n: n equals n
abbrev by_cases : Term
by_cases = case 1 (unknown 0) (false t∷ (equal 1 (var 0) (var 0) t∷ t[]))

ex_case : reading sig [] 0 9 (encode by_cases) ≡ Ok by_cases
ex_case = refl

ex_both : reading sig (0 ∷ []) 0 9 (5 ∷ 0 ∷ 0 ∷ 6 ∷ 0 ∷ 0 ∷ []) ≡ Ok (both (var 0) (not (var 0)))
ex_both = refl

ex_call : reading sig [] 1 9 (3 ∷ 0 ∷ 2 ∷ 0 ∷ 0 ∷ []) ≡ Ok (call 0 (false t∷ t[]))
ex_call = refl

-- a tag past 07, at the tag; and, not, equal where a natural is wanted, at the tag
ex_tag : reading sig [] 0 9 (6 ∷ 8 ∷ []) ≡ Err 10
ex_tag = refl

ex_and : reading sig [] 1 9 (5 ∷ []) ≡ Err 9
ex_and = refl

ex_not : reading sig [] 1 9 (6 ∷ 8 ∷ []) ≡ Err 9
ex_not = refl

ex_equal : reading sig [] 1 9 (7 ∷ 1 ∷ []) ≡ Err 9
ex_equal = refl

-- a missing byte, at the end; no bytes at all; bytes left over, at the first of them
ex_lacks : reading sig [] 0 9 (6 ∷ 6 ∷ []) ≡ Err 11
ex_lacks = refl

ex_empty : reading sig [] 0 9 [] ≡ Err 9
ex_empty = refl

ex_over : reading sig (0 ∷ []) 0 9 (0 ∷ 0 ∷ 5 ∷ 5 ∷ []) ≡ Err 11
ex_over = refl

-- a variable out of scope, and one of another type, at its number; an unknown likewise
ex_variable : reading sig (0 ∷ []) 0 9 (0 ∷ 1 ∷ []) ≡ Err 10
ex_variable = refl

ex_variable_type : reading sig (0 ∷ []) 1 9 (0 ∷ 0 ∷ []) ≡ Err 10
ex_variable_type = refl

ex_unknown : reading sig [] 1 9 (1 ∷ 1 ∷ []) ≡ Err 10
ex_unknown = refl

ex_unknown_type : reading sig [] 0 9 (1 ∷ 0 ∷ []) ≡ Err 10
ex_unknown_type = refl

-- a constructor of another type, at the type; no such constructor, at the constructor
ex_owner : reading sig [] 0 9 (2 ∷ 1 ∷ 0 ∷ []) ≡ Err 10
ex_owner = refl

ex_constructor : reading sig [] 0 9 (2 ∷ 0 ∷ 2 ∷ []) ≡ Err 11
ex_constructor = refl

-- no such function, and one of another type, at its number
ex_function : reading sig [] 1 9 (3 ∷ 1 ∷ []) ≡ Err 10
ex_function = refl

ex_function_type : reading sig [] 0 9 (3 ∷ 0 ∷ []) ≡ Err 10
ex_function_type = refl

-- an argument that fails, where it fails
ex_argument : reading sig [] 1 9 (3 ∷ 0 ∷ 2 ∷ 1 ∷ 0 ∷ []) ≡ Err 12
ex_argument = refl

-- an undeclared type after a case, and after equal, at it
ex_case_type : reading sig [] 0 9 (4 ∷ 3 ∷ []) ≡ Err 10
ex_case_type = refl

ex_equal_type : reading sig [] 0 9 (7 ∷ 3 ∷ []) ≡ Err 10
ex_equal_type = refl

-- a branch of 65 variables, at its first byte; where the bytes end there, at the same place; a branch of 64 is read
abbrev crowded : List ℕ
crowded = 4 ∷ 1 ∷ 0 ∷ 0 ∷ 2 ∷ 0 ∷ 0 ∷ []

ex_many : reading sig (replicate 64 1) 0 9 (crowded ++ (2 ∷ 0 ∷ 0 ∷ [])) ≡ Err 16
ex_many = refl

ex_many_end : reading sig (replicate 64 1) 0 9 crowded ≡ Err 16
ex_many_end = refl

ex_wide : reading sig (2 ∷ replicate 58 1) 1 9 (4 ∷ 2 ∷ 0 ∷ 0 ∷ 0 ∷ 63 ∷ []) ≡ Err 13
ex_wide = refl

ex_most : reading sig (2 ∷ replicate 57 1) 1 9 (4 ∷ 2 ∷ 0 ∷ 0 ∷ 0 ∷ 63 ∷ []) ≡ Ok (case 2 (var 0) (var 63 t∷ t[]))
ex_most = refl
