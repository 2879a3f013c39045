-- The type numbers outside terms, with their places, front to back; and the first that names no type. Assumes nothing.
use Rattle.std.specs.List.{flat_map, All}
use Rattle.std.specs.Prelude.{ℕ, ◌+◌, ◌≤◌, cond, List, [], ◌∷◌, ◌++◌, length, Some, None, Option, nat_lt}
use Rattle.syntax.specs.declared.tables.Datatype.{Datatype}
use Rattle.syntax.specs.declared.tables.Callable.{Callable}
use Rattle.syntax.specs.declared.tables.Signature.{Signature}
use Rattle.syntax.specs.Tables.{listed, cases_in}
use Rattle.syntax.specs.Problems.{encode_type}
use Rattle.records.specs.Raw.{Raw, RawFunction, write_function}
use Rattle.tables.specs.Tabled.{declared_by, functions_start, unknowns_start}

-- a type number, and the place where it stands
pub record Number : Type 0 where
  pub place : ℕ
  pub type : ℕ

abbrev pub number : ℕ → ℕ → Number
number p t = record { place = p; type = t }

-- a list of types, the first at p
abbrev pub in_list : ℕ → List ℕ → List Number
in_list p [] = []
in_list p (t ∷ ts) = number p t ∷ in_list (p + 1) ts

-- constructors, each led by how many arguments it takes, the first at p
abbrev pub in_cases : ℕ → List (List ℕ) → List Number
in_cases p [] = []
in_cases p (ts ∷ cs) = in_list (p + 1) ts ++ in_cases (p + (1 + length ts)) cs

-- types, the first record at p: a mark, how many constructors, and these
abbrev pub in_types : ℕ → List (List (List ℕ)) → List Number
in_types p [] = []
in_types p (cs ∷ ts) = in_cases (p + 3) cs ++ in_types (p + length (encode_type cs)) ts

-- the parameters of the function whose record stands at p, and its result
abbrev pub in_profile : ℕ → List ℕ → ℕ → List Number
in_profile p params result = in_list (p + 3) params ++ (number (p + (3 + length params)) result ∷ [])

abbrev pub in_functions : ℕ → List RawFunction → List Number
in_functions p [] = []
in_functions p (f ∷ fs) = in_profile p f.profile.params f.profile.result ++ in_functions (p + length (write_function f)) fs

abbrev pub in_unknowns : ℕ → List ℕ → List Number
in_unknowns p [] = []
in_unknowns p (t ∷ ts) = number (p + 2) t ∷ in_unknowns (p + 3) ts

abbrev pub numbers_in : Raw → List Number
numbers_in r = in_types 0 r.types ++ (in_functions (functions_start r) r.functions ++ in_unknowns (unknowns_start r) r.unknowns)

-- the place of the first number that is not below n
abbrev pub first_from : ℕ → List Number → Option ℕ
first_from n [] = None
first_from n (x ∷ xs) = cond (nat_lt x.type n) (first_from n xs) (Some x.place)

-- Type 0 is Bool, and the declared ones count from 1.
abbrev pub undeclared : Raw → Option ℕ
undeclared r = first_from (length (declared_by r).types) (numbers_in r)

-- The same numbers, by the tables.
abbrev pub of_types : List Datatype → List Number
of_types ds = flat_map (λ d. in_cases (d.at + 3) (cases_in d)) ds

abbrev pub of_functions : List Callable → List Number
of_functions fs = flat_map (λ f. in_profile f.at (listed f.params) f.result) fs

abbrev pub of_tables : Signature → ℕ → List Number
of_tables sig start = of_types sig.types.now ++ (of_functions sig.functions.now ++ in_unknowns start sig.unknowns.now)

-- the places of the records are places of a problem's bytes
pub record Low (sig : Signature) (start : ℕ) : Type 0 where
  pub of_types : All (λ d. d.at ≤ 16384) sig.types.now
  pub of_functions : All (λ f. f.at ≤ 16384) sig.functions.now
  pub of_unknowns : start ≤ 16384
  pub few : length sig.unknowns.now ≤ 16
