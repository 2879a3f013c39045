-- The verdict on bytes: the problem that they are, or the first fault with its number, place and layer. Assumes nothing.
use Rattle.std.specs.Prelude.{ℕ, ◌+◌, cond, List, [], ◌∷◌, length, Some, None, Ok, Err, Option, Result, nat_le}
use Rattle.syntax.specs.declared.faults.Fault.{Fault}
use Rattle.syntax.specs.declared.faults.Reason.{Reason}
use Rattle.syntax.specs.declared.faults.Reason.TheVariants.{Undeclared, NoValue, BadTerm}
use Rattle.syntax.specs.Faults.{fault}
use Rattle.syntax.specs.Terms.{Term}
use Rattle.syntax.specs.Typing.{Sig}
use Rattle.syntax.specs.Least.{least_of}
use Rattle.syntax.specs.Problems.{Function, Problem, encode_type, empty_problem}
use Rattle.records.specs.Raw.{Raw, RawFunction, write_function, write_goal}
use Rattle.records.specs.Reading.{and_then, records}
use Rattle.tables.specs.Tabled.{declared_by, functions_start, goals_start, body_at, term_at}
use Rattle.declarations.specs.Numbers.{undeclared}
use Rattle.reading.specs.Reading.{reading}

-- The first type whose values are all deeper than 8, if it has any, at its mark. The type number is t, and p the place of its record.
abbrev pub deep_from : Sig → ℕ → List (List (List ℕ)) → ℕ → Option ℕ
deep_from sig t [] p = None
deep_from sig t (cs ∷ ts) p = cond (nat_le (least_of sig t) 8) (deep_from sig (t + 1) ts (p + length (encode_type cs))) (Some p)

abbrev pub deep : Raw → Option ℕ
deep r = deep_from (declared_by r) 1 r.types 0

-- a place at which a term fails, as a fault
abbrev pub term_in : Result Term ℕ → Result Term Fault
term_in (Ok t) = Ok t
term_in (Err p) = Err (fault BadTerm p)

-- the bodies, from the function record at p on
abbrev pub bodies_in : Sig → List RawFunction → ℕ → Result (List Function) Fault
bodies_in sig [] p = Ok []
bodies_in sig (f ∷ fs) p =
    and_then (term_in (reading sig f.profile.params f.profile.result (body_at p f) f.body)) (λ t.
    and_then (bodies_in sig fs (p + length (write_function f))) (λ gs. Ok (record { profile = f.profile; body = t } ∷ gs)))

-- the goals, from the goal record at p on
abbrev pub goals_in : Sig → List (List ℕ) → ℕ → Result (List Term) Fault
goals_in sig [] p = Ok []
goals_in sig (g ∷ gs) p =
    and_then (term_in (reading sig [] 0 (term_at p g) g)) (λ t. and_then (goals_in sig gs (p + length (write_goal g))) (λ ts. Ok (t ∷ ts)))

abbrev pub terms_in : Raw → Result Problem Fault
terms_in r =
    and_then (bodies_in (declared_by r) r.functions (functions_start r)) (λ fs.
    and_then (goals_in (declared_by r) r.goals (goals_start r)) (λ gs.
    Ok (record { types = r.types; functions = fs; unknowns = r.unknowns; goals = gs })))

-- a fault at the place that was found, if any, and else what comes after
abbrev pub unless : Option ℕ → Reason → Result (Unit {0}) Fault → Result (Unit {0}) Fault
unless None why after = after
unless (Some p) why after = Err (fault why p)

abbrev pub types_in : Raw → Result (Unit {0}) Fault
types_in r = unless (undeclared r) Undeclared (unless (deep r) NoValue (Ok tt))

-- The records are read first, then the types are looked at, then the terms are read; each layer only where the one before has no fault.
abbrev pub verdict : List ℕ → Result Problem Fault
verdict bs = and_then (records bs) (λ r. and_then (types_in r) (λ _. terms_in r))

abbrev pub problem_in : Result Problem Fault → Problem
problem_in (Ok p) = p
problem_in (Err f) = empty_problem

-- the problem that the bytes are; the empty one where they are refused
abbrev pub decoded : List ℕ → Problem
decoded bs = problem_in (verdict bs)

-- what a check answers
abbrev pub checked : Result Problem Fault → Result (Unit {0}) Fault
checked (Ok p) = Ok tt
checked (Err f) = Err f
