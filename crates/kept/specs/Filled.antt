-- Tables that hold what the problem says that the bytes are, and nothing more. Assumes nothing.
use Rattle.std.specs.Prelude.{◌≡◌, ℕ, ◌<◌, ◌≤◌, true, List, [], map, length, take, is_ok, vec_items, slice_index, slice_index_or}
use Rattle.syntax.specs.declared.tables.Datatype.{Datatype}
use Rattle.syntax.specs.declared.tables.Callable.{Callable}
use Rattle.syntax.specs.declared.tables.Span.{Span}
use Rattle.syntax.specs.Tables.{listed, cases_in}
use Rattle.syntax.specs.Typing.{Sig, cases_of}
use Rattle.syntax.specs.Least.{need_of}
use Rattle.syntax.specs.Problems.{encode_problem}
use Rattle.tables.specs.declared.filling.Counts.{Counts}
use Rattle.depths.specs.Least.{Leasts}
use Rattle.depths.specs.Needs.{need_by, Filled as By-rows}
use Rattle.verdict.specs.declared.workspace.Workspace.{Workspace}
use Rattle.verdict.specs.Verdict.{verdict}
use Rattle.kept.specs.Layout.{read_from, sig_from, body_places, goal_places}
use Rattle.kept.specs.declared.record_tables.Tables.{Tables}

pub record Filled (bs : List ℕ) (types : List Datatype) (functions : List Callable) (unknowns : List ℕ) (goals : List Span) (least : List ℕ) : Type 0 where
  pub short : length bs ≤ 16384
  pub accepted : is_ok (verdict bs) ≡ true
  pub written : encode_problem (read_from bs) ≡ bs
  pub of_types : map cases_in types ≡ (sig_from bs).types
  pub few_cases : (t : ℕ) → length (cases_of (sig_from bs) t) ≤ 16
  pub of_params : map (λ f. listed f.params) functions ≡ map (λ f. f.profile.params) (read_from bs).functions
  pub of_results : map (λ f. f.result) functions ≡ map (λ f. f.profile.result) (read_from bs).functions
  pub of_bodies : map (λ f. f.body.start) functions ≡ body_places (read_from bs)
  pub of_unknowns : unknowns ≡ (read_from bs).unknowns
  pub of_goals : map (λ g. g.start) goals ≡ goal_places (read_from bs)
  pub of_least : Leasts (sig_from bs) least

abbrev pub Holds : List ℕ → Tables → Type 0
Holds bs t = Filled bs (vec_items t.types) (vec_items t.functions) (vec_items t.unknowns) (vec_items t.goals) (vec_items t.least)

-- a row of needs for each type, by a table of least depths; they are what constructors need where the depths are right
pub record NeedsHeld (sig : Sig) (least : List ℕ) (rows : List (List ℕ)) : Type 0 where
  pub long : length rows ≡ length sig.types
  pub by : By-rows (need_by sig least) rows
  pub each : Leasts sig least → (t c : ℕ) → (t < length rows) × (c < 16) → slice_index (slice_index_or rows t []) c ≡ need_of sig t c

-- the tables are the fronts of a workspace's
pub record Fronts (w : Workspace) (n : Counts) (t : Tables) : Type 0 where
  pub of_types : vec_items t.types ≡ take n.types w.tables.types
  pub of_functions : vec_items t.functions ≡ take n.functions w.tables.functions
  pub of_unknowns : vec_items t.unknowns ≡ take n.unknowns w.tables.unknowns
  pub of_goals : vec_items t.goals ≡ take n.goals w.tables.goals
  pub of_least : vec_items t.least ≡ take n.types w.least

-- the fronts lie within the tables of a workspace
pub record Counted (n : Counts) : Type 0 where
  pub of_types : n.types ≤ 32
  pub of_functions : n.functions ≤ 64
  pub of_unknowns : n.unknowns ≤ 16
  pub of_goals : n.goals ≤ 32
