-- What the records of a problem hold while its terms are still bytes, and the bytes that write them. Assumes nothing.
use Rattle.std.specs.Prelude.{ℕ, ◌≤◌, List, ◌∷◌, ◌++◌, length}
use Rattle.syntax.specs.Typing.{Profile}
use Rattle.syntax.specs.Problems.{Each, concat, encode_list, encode_part, encode_type, encode_unknown, encode_end}

pub record RawFunction : Type 0 where
  pub profile : Profile
  pub body : List ℕ

pub record Raw : Type 0 where
  pub types : List (List (List ℕ))
  pub functions : List RawFunction
  pub unknowns : List ℕ
  pub goals : List (List ℕ)

abbrev pub write_function : RawFunction → List ℕ
write_function f = 0x46 ∷ (0x4E ∷ (encode_list f.profile.params ++ (f.profile.result ∷ encode_part f.body)))

abbrev pub write_goal : List ℕ → List ℕ
write_goal g = 0x47 ∷ (0x4C ∷ encode_part g)

abbrev pub write : Raw → List ℕ
write r =
    concat encode_type r.types
    ++ (concat write_function r.functions ++ (concat encode_unknown r.unknowns ++ (concat write_goal r.goals ++ encode_end)))

abbrev pub Few : List ℕ → Type 0
Few ts = length ts ≤ 6

-- every count within its limit
pub record Within (r : Raw) : Type 0 where
  pub few_types : length r.types ≤ 31
  pub few_functions : length r.functions ≤ 64
  pub few_unknowns : length r.unknowns ≤ 16
  pub few_goals : length r.goals ≤ 32
  pub of_types : Each (λ cs. (1 ≤ length cs) × (length cs ≤ 16) × Each Few cs) r.types
  pub of_functions : Each (λ f. Few f.profile.params) r.functions
  pub short : length (write r) ≤ 16384
