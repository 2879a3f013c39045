-- Problems, the bytes that write them, and which of them are lawful. Assumes nothing.
use Rattle.std.specs.Prelude.{List, [], ◌∷◌, ◌++◌, map, ℕ, ◌/◌, ◌%◌, ◌≤◌, length}
use Rattle.syntax.specs.Terms.{Term, encode}
use Rattle.syntax.specs.Typing.{Sig, Profile, Declared, HasType}
use Rattle.syntax.specs.Values.{Shallow}

pub record Function : Type 0 where
  pub profile : Profile
  pub body : Term

-- A problem: the types that it declares (they count from 1, since Bool stands before them), its functions,
-- the types of its unknowns, and its goals.
pub record Problem : Type 0 where
  pub types : List (List (List ℕ))
  pub functions : List Function
  pub unknowns : List ℕ
  pub goals : List Term

-- false and true, which take no arguments
abbrev pub bool : List (List ℕ)
bool = [] ∷ ([] ∷ [])

abbrev pub sig_of : Problem → Sig
sig_of p = record { types = bool ∷ p.types; functions = map (λ f. f.profile) p.functions; unknowns = p.unknowns }

abbrev pub concat : {A : Type 0} → (A → List ℕ) → List A → List ℕ
concat f [] = []
concat f (x ∷ xs) = f x ++ concat f xs

-- a list of types, led by how many there are
abbrev pub encode_list : List ℕ → List ℕ
encode_list ts = length ts ∷ ts

-- a part, led by its length in two bytes, the high one first
abbrev pub encode_part : List ℕ → List ℕ
encode_part bs = (length bs / 256) ∷ ((length bs % 256) ∷ bs)

-- Each record starts with its mark of two bytes.
abbrev pub encode_type : List (List ℕ) → List ℕ
encode_type cs = 0x44 ∷ (0x54 ∷ (length cs ∷ concat encode_list cs))

abbrev pub encode_function : Function → List ℕ
encode_function f = 0x46 ∷ (0x4E ∷ (encode_list f.profile.params ++ (f.profile.result ∷ encode_part (encode f.body))))

abbrev pub encode_unknown : ℕ → List ℕ
encode_unknown t = 0x55 ∷ (0x4B ∷ (t ∷ []))

abbrev pub encode_goal : Term → List ℕ
encode_goal g = 0x47 ∷ (0x4C ∷ encode_part (encode g))

abbrev pub encode_end : List ℕ
encode_end = 0x45 ∷ (0x4E ∷ [])

abbrev pub encode_problem : Problem → List ℕ
encode_problem p =
    concat encode_type p.types
    ++ (concat encode_function p.functions ++ (concat encode_unknown p.unknowns ++ (concat encode_goal p.goals ++ encode_end)))

abbrev pub Each : {A : Type 0} → (A → Type 0) → List A → Type 0
Each P [] = Unit {0}
Each P (x ∷ xs) = P x × Each P xs

-- at most six types, all declared
abbrev pub FewTypes : Sig → List ℕ → Type 0
FewTypes sig ts = (length ts ≤ 6) × Each (Declared sig) ts

abbrev pub LawfulType : Sig → List (List ℕ) → Type 0
LawfulType sig cs = (1 ≤ length cs) × (length cs ≤ 16) × Each (FewTypes sig) cs

abbrev pub LawfulFunction : Sig → Function → Type 0
LawfulFunction sig f =
    FewTypes sig f.profile.params × Declared sig f.profile.result
    × HasType sig f.profile.params f.body f.profile.result

-- A goal has no variables, and is of type Bool.
abbrev pub LawfulGoal : Sig → Term → Type 0
LawfulGoal sig g = HasType sig [] g 0

-- within every limit, every type declared, every type with a value no deeper than 8, every term of the type that its place asks for
pub record Lawful (p : Problem) : Type 0 where
  pub few_types : length p.types ≤ 31
  pub few_functions : length p.functions ≤ 64
  pub few_unknowns : length p.unknowns ≤ 16
  pub few_goals : length p.goals ≤ 32
  pub of_types : Each (LawfulType (sig_of p)) p.types
  pub of_functions : Each (LawfulFunction (sig_of p)) p.functions
  pub of_unknowns : Each (Declared (sig_of p)) p.unknowns
  pub of_goals : Each (LawfulGoal (sig_of p)) p.goals
  pub inhabited : (t : ℕ) → Declared (sig_of p) t → Shallow (sig_of p) t 8
  pub short : length (encode_problem p) ≤ 16384

-- the problem that declares nothing and asks nothing
abbrev pub empty_problem : Problem
empty_problem = record { types = []; functions = []; unknowns = []; goals = [] }
