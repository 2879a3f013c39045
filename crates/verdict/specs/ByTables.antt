-- The same looks at types and terms, over the tables in which the records stand. Assumes nothing.
use Rattle.std.specs.Prelude.{◌≡◌, ℕ, ◌<◌, ◌≤◌, List, [], ◌∷◌, length, take, get_or, Ok, Err, Result, slice_index_or}
use Rattle.syntax.specs.declared.faults.Fault.{Fault}
use Rattle.syntax.specs.declared.tables.Callable.{Callable}
use Rattle.syntax.specs.declared.tables.Signature.{Signature}
use Rattle.syntax.specs.declared.tables.Span.{Span}
use Rattle.syntax.specs.Tables.{listed, profile_in, declared_in}
use Rattle.syntax.specs.Terms.{Term}
use Rattle.syntax.specs.Typing.{Sig}
use Rattle.syntax.specs.Problems.{Function}
use Rattle.records.specs.Raw.{Raw}
use Rattle.records.specs.Reading.{and_then}
use Rattle.tables.specs.Tabled.{part_in, Inside, Declares}
use Rattle.reading.specs.Reading.{reading}
use Rattle.depths.specs.Least.{Leasts}
use Rattle.verdict.specs.Verdict.{term_in, types_in}

-- an answer of which only the fault is kept
abbrev pub fault_of : {A : Type 0} → Result A Fault → Result (Unit {0}) Fault
fault_of (Ok x) = Ok tt
fault_of (Err f) = Err f

abbrev pub bodies_by : Sig → List ℕ → List Callable → Result (List Function) Fault
bodies_by sig bs [] = Ok []
bodies_by sig bs (f ∷ fs) =
    and_then (term_in (reading sig (listed f.params) f.result f.body.start (part_in bs f.body))) (λ t.
    and_then (bodies_by sig bs fs) (λ gs. Ok (record { profile = profile_in f; body = t } ∷ gs)))

abbrev pub goals_by : Sig → List ℕ → List Span → Result (List Term) Fault
goals_by sig bs [] = Ok []
goals_by sig bs (g ∷ gs) =
    and_then (term_in (reading sig [] 0 g.start (part_in bs g))) (λ t. and_then (goals_by sig bs gs) (λ ts. Ok (t ∷ ts)))

-- the bodies, and then the goals
abbrev pub terms_by : Sig → List ℕ → List Callable → List Span → Result (List Function × List Term) Fault
terms_by sig bs fs gs = and_then (bodies_by sig bs fs) (λ hs. and_then (goals_by sig bs gs) (λ ts. Ok (hs, ts)))

-- the bodies lie within the bytes, and the functions take few parameters
pub record FitFunctions (bs : List ℕ) (fs : List Callable) : Type 0 where
  pub inside : (k : ℕ) (f : Callable) → k < length fs → Inside bs (get_or fs k f).body
  pub few : (k : ℕ) (f : Callable) → k < length fs → length (listed (get_or fs k f).params) ≤ 64

abbrev pub FitGoals : List ℕ → List Span → Type 0
FitGoals bs gs = (k : ℕ) (g : Span) → k < length gs → Inside bs (slice_index_or gs k g)

-- of the records that the tables hold, the types are looked at, and the least depths are right where no fault was found
pub record TypesLookedAt (sig : Signature) (start : ℕ) (least : List ℕ) (r : Result (Unit {0}) Fault) : Type 0 where
  pub exact : (raw : Raw) → Declares raw sig.types.now sig.functions.now sig.unknowns.now start → r ≡ types_in raw
  pub leasts : r ≡ Ok tt → Leasts (declared_in sig) (take (length sig.types.now) least)
