-- The problem that bytes are, and where its terms stand in them. Assumes nothing.
use Rattle.std.specs.Prelude.{ℕ, ◌+◌, List, length}
use Rattle.syntax.specs.Terms.{Term}
use Rattle.syntax.specs.Typing.{Sig}
use Rattle.syntax.specs.Problems.{Function, Problem, sig_of, concat, encode_type, encode_function, encode_unknown, encode_goal}
use Rattle.tables.specs.Tabled.{places_of}
use Rattle.verdict.specs.Verdict.{decoded}

-- the problem that the bytes are; the empty one where they are refused
unfoldable pub read_from : List ℕ → Problem
read_from bs = decoded bs

abbrev pub sig_from : List ℕ → Sig
sig_from bs = sig_of (read_from bs)

-- where the records of functions, unknowns and goals start
abbrev pub functions_from : Problem → ℕ
functions_from p = length (concat encode_type p.types)

abbrev pub unknowns_from : Problem → ℕ
unknowns_from p = functions_from p + length (concat encode_function p.functions)

abbrev pub goals_from : Problem → ℕ
goals_from p = unknowns_from p + length (concat encode_unknown p.unknowns)

-- A body stands behind its record's mark, the parameters with their count, the result and the length; a goal's term behind the mark and the length.
abbrev pub body_from : ℕ → Function → ℕ
body_from q f = q + (6 + length f.profile.params)

abbrev pub goal_from : ℕ → Term → ℕ
goal_from q g = q + 4

-- the places of the bodies and of the goals' terms in the bytes of a problem
abbrev pub body_places : Problem → List ℕ
body_places p = places_of body_from encode_function (functions_from p) p.functions

abbrev pub goal_places : Problem → List ℕ
goal_places p = places_of goal_from encode_goal (goals_from p) p.goals
