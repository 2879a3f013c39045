-- Least depths and needs of small declarations, computed. Assumes nothing.
use Rattle.std.specs.Prelude.{◌≡◌, ℕ, List, [], ◌∷◌, refl}
use Rattle.syntax.specs.Typing.{Sig}
use Rattle.syntax.specs.Problems.{bool}
use Rattle.syntax.specs.Least.{least_of, need_of}

-- Bool and then these types, which count from 1
abbrev declare : List (List (List ℕ)) → Sig
declare ts = record { types = bool ∷ ts; functions = []; unknowns = [] }

abbrev constant : List ℕ
constant = []

abbrev over : ℕ → List ℕ
over t = t ∷ []

-- 1: the naturals, zero and successor; 2: lists of naturals, empty and cons; 3: pairs of naturals
abbrev common : Sig
common = declare ((constant ∷ (over 1 ∷ [])) ∷ ((constant ∷ ((1 ∷ (2 ∷ [])) ∷ [])) ∷ (((1 ∷ (1 ∷ [])) ∷ []) ∷ [])))

bool_least : least_of common 0 ≡ 1
bool_least = refl

natural_least : least_of common 1 ≡ 1
natural_least = refl

zero_needs : need_of common 1 0 ≡ 1
zero_needs = refl

successor_needs : need_of common 1 1 ≡ 2
successor_needs = refl

list_least : least_of common 2 ≡ 1
list_least = refl

cons_needs : need_of common 2 1 ≡ 2
cons_needs = refl

pair_least : least_of common 3 ≡ 2
pair_least = refl

pair_needs : need_of common 3 0 ≡ 2
pair_needs = refl

-- no such type: no value
undeclared_least : least_of common 4 ≡ 9
undeclared_least = refl

-- two types, each with one constructor over the other: neither has a value
abbrev circle : Sig
circle = declare ((over 2 ∷ []) ∷ ((over 1 ∷ []) ∷ []))

circle_first : least_of circle 1 ≡ 9
circle_first = refl

circle_second : least_of circle 2 ≡ 9
circle_second = refl

-- A chain: type 1 has one constant, and each later type one constructor over the one before.
abbrev chain : Sig
chain =
    declare ((constant ∷ []) ∷ ((over 1 ∷ []) ∷ ((over 2 ∷ []) ∷ ((over 3 ∷ []) ∷ ((over 4 ∷ []) ∷ ((over 5 ∷ []) ∷ ((over 6 ∷ [])
    ∷ ((over 7 ∷ []) ∷ ((over 8 ∷ []) ∷ ((over 9 ∷ []) ∷ []))))))))))

chain_eighth : least_of chain 8 ≡ 8
chain_eighth = refl

chain_ninth : least_of chain 9 ≡ 9
chain_ninth = refl

chain_tenth : least_of chain 10 ≡ 9
chain_tenth = refl
