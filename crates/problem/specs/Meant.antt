-- The problem that a taken problem stands for, and its bytes. Assumes nothing.
use Rattle.std.specs.Prelude.{◌≡◌, ℕ, ◌+◌, ◌<◌, List, [], length, get_or, vec_items, slice_index_or}
use Rattle.syntax.specs.Terms.{Term, encode}
use Rattle.syntax.specs.Typing.{Sig, Want, want, params_of, result_of}
use Rattle.syntax.specs.Problems.{Function, Problem as Meaning}
use Rattle.ends.specs.Ends.{ends_of, StandsAt}
use Rattle.kept.specs.Layout.{read_from, sig_from}
use Rattle.problem.specs.declared.problem.Problem.{Problem}

abbrev pub held : Problem → List ℕ
held p = vec_items p.bytes

abbrev pub meant : Problem → Meaning
meant p = read_from (held p)

-- what the problem declares
abbrev pub sig : Problem → Sig
sig p = sig_from (held p)

-- for each place, the place after the term that stands there
abbrev pub ends : Problem → List ℕ
ends p = ends_of (sig p) (held p)

-- a term stands at a place of the problem
abbrev pub Stands : Problem → ℕ → Want → Term → Type 0
Stands p q w t = StandsAt (sig p) (held p) q w t

-- the body of the function f, and the term of the goal g, stand at q
abbrev pub BodyStands : Problem → ℕ → ℕ → Type 0
BodyStands p f q =
    (d : Function) → f < length (meant p).functions → Stands p q (want (params_of (sig p) f) (result_of (sig p) f)) (get_or (meant p).functions f d).body

abbrev pub GoalStands : Problem → ℕ → ℕ → Type 0
GoalStands p g q = (d : Term) → g < length (meant p).goals → Stands p q (want [] 0) (slice_index_or (meant p).goals g d)

-- q comes after each term that stands at p
abbrev pub ComesAfter : Problem → ℕ → ℕ → Type 0
ComesAfter p place q = (w : Want) (t : Term) → Stands p place w t → q ≡ place + length (encode t)
