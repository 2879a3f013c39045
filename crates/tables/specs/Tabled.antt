-- What the tables hold once the records are read: the declarations, where each record and each term stands, and the terms as parts of the bytes. Assumes nothing.
use Rattle.std.specs.Prelude.{◌≡◌, ℕ, ◌+◌, ◌<◌, ◌≤◌, List, [], ◌∷◌, map, length, get_or, take, drop, Ok, slice_index_or}
use Rattle.syntax.specs.declared.tables.Datatype.{Datatype}
use Rattle.syntax.specs.declared.tables.Callable.{Callable}
use Rattle.syntax.specs.declared.tables.Span.{Span}
use Rattle.syntax.specs.Tables.{cases_in, profile_in}
use Rattle.syntax.specs.Typing.{Sig}
use Rattle.syntax.specs.Problems.{bool, concat, encode_type, encode_unknown}
use Rattle.records.specs.Raw.{Raw, RawFunction, write_function, write_goal, write, Within}
use Rattle.records.specs.Reading.{records}
use Rattle.tables.specs.declared.filling.Counts.{Counts}

-- Items that are written one after another, the first at p: what g gives for each item at its place.
abbrev pub places_of : {A : Type 0} → (ℕ → A → ℕ) → (A → List ℕ) → ℕ → List A → List ℕ
places_of g w p [] = []
places_of g w p (x ∷ xs) = g p x ∷ places_of g w (p + length (w x)) xs

-- the place of a record's mark; of a function's body; of a goal's term
abbrev pub mark_at : {A : Type 0} → ℕ → A → ℕ
mark_at p x = p

abbrev pub body_at : ℕ → RawFunction → ℕ
body_at p f = p + (6 + length f.profile.params)

abbrev pub term_at : ℕ → List ℕ → ℕ
term_at p g = p + 4

-- the places where the function, the unknown and the goal records start
abbrev pub functions_start : Raw → ℕ
functions_start r = length (concat encode_type r.types)

abbrev pub unknowns_start : Raw → ℕ
unknowns_start r = functions_start r + length (concat write_function r.functions)

abbrev pub goals_start : Raw → ℕ
goals_start r = unknowns_start r + length (concat encode_unknown r.unknowns)

-- a part of the bytes, and whether it lies within them
abbrev pub part_in : List ℕ → Span → List ℕ
part_in bs s = take s.len (drop s.start bs)

abbrev pub Inside : List ℕ → Span → Type 0
Inside bs s = s.start + s.len ≤ length bs

abbrev pub function_in : List ℕ → Callable → RawFunction
function_in bs f = record { profile = profile_in f; body = part_in bs f.body }

abbrev pub declared_by : Raw → Sig
declared_by r = record { types = bool ∷ r.types; functions = map (λ f. f.profile) r.functions; unknowns = r.unknowns }

-- the tables, filled with the declarations of r and nothing more; Bool stands first and has no record, and its place is 0
pub record Declares (r : Raw) (types : List Datatype) (functions : List Callable) (unknowns : List ℕ) (unknowns-at : ℕ) : Type 0 where
  pub of_types : map cases_in types ≡ bool ∷ r.types
  pub types_at : map (λ d. d.at) types ≡ 0 ∷ places_of mark_at encode_type 0 r.types
  pub of_functions : map profile_in functions ≡ map (λ f. f.profile) r.functions
  pub functions_at : map (λ f. f.at) functions ≡ places_of mark_at write_function (functions_start r) r.functions
  pub of_unknowns : unknowns ≡ r.unknowns
  pub starts : unknowns-at ≡ unknowns_start r

-- the terms of r as parts of the bytes: the bodies of the functions, and the goals
pub record Locates (bs : List ℕ) (r : Raw) (functions : List Callable) (goals : List Span) : Type 0 where
  pub of_bodies : map (function_in bs) functions ≡ r.functions
  pub bodies_at : map (λ f. f.body.start) functions ≡ places_of body_at write_function (functions_start r) r.functions
  pub bodies_inside : (k : ℕ) (d : Callable) → k < length functions → Inside bs (get_or functions k d).body
  pub of_goals : map (part_in bs) goals ≡ r.goals
  pub goals_at : map (λ g. g.start) goals ≡ places_of term_at write_goal (goals_start r) r.goals
  pub goals_inside : (k : ℕ) (d : Span) → k < length goals → Inside bs (slice_index_or goals k d)

-- The bytes are the records r, and the front of each table, as long as its count says, holds them.
pub record Tabled (bs : List ℕ) (r : Raw) (types : List Datatype) (functions : List Callable) (unknowns : List ℕ) (goals : List Span) (n : Counts) : Type 0 where
  pub read : records bs ≡ Ok r
  pub written : write r ≡ bs
  pub within : Within r
  pub types_count : n.types ≡ 1 + length r.types
  pub functions_count : n.functions ≡ length r.functions
  pub unknowns_count : n.unknowns ≡ length r.unknowns
  pub goals_count : n.goals ≡ length r.goals
  pub declares : Declares r (take n.types types) (take n.functions functions) (take n.unknowns unknowns) n.start
  pub locates : Locates bs r (take n.functions functions) (take n.goals goals)
