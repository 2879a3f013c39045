-- What a text comes to, byte after byte.
use Rattle.std.specs.Prelude.{ℕ, ◌+◌, ◌-◌, min, cond, List, [], ◌∷◌, ◌++◌, length, take, count_by, Some, None, Option, Ok, Err, Result, ◌==◌, nat_lt}
use Rattle.dimacs.specs.declared.fault.Kind.{Kind}
use Rattle.dimacs.specs.declared.fault.Kind.TheVariants.{NoHeader, TooFewClauses, MissingZero, TooManyEntries}
use Rattle.dimacs.specs.declared.fault.Fault.{Fault}
use Rattle.dimacs.specs.declared.step.Mode.TheVariants.{Start}
use Rattle.dimacs.specs.declared.step.Stage.{Stage}
use Rattle.dimacs.specs.declared.step.Stage.TheVariants.{Before, Variables, Clauses, Rest, Body}
use Rattle.dimacs.specs.declared.step.State.{State}
use Rattle.dimacs.specs.declared.step.Event.{Event}
use Rattle.dimacs.specs.declared.step.Event.TheVariants.{Literal, Clause}
use Rattle.dimacs.specs.declared.step.Step.{Step}
use Rattle.dimacs.specs.Step.{stepped}

-- the state, the literals of the clause that is not ended yet, and the row of the clauses before it
pub record Reading : Type 0 where
  pub state : State
  pub clause : List ℕ
  pub row : List ℕ

abbrev pub begin : Reading
begin = record { state = record { mode = Start; stage = Before }; clause = []; row = [] }

-- a literal or a clause is at its end
abbrev pub act : Reading → State → Event → Result Reading Kind
act r s (Literal l) =
    cond (nat_lt (length r.clause) 65535) (Ok (record { state = s; clause = r.clause ++ (l ∷ []); row = r.row })) (Err TooManyEntries)
act r s Clause =
    cond (nat_lt (length r.row + length r.clause) 65535)
    (Ok (record { state = s; clause = []; row = r.row ++ (length r.clause ∷ r.clause) }))
    (Err TooManyEntries)

abbrev pub act_on : Reading → State → Option Event → Result Reading Kind
act_on r s None = Ok (record { state = s; clause = r.clause; row = r.row })
act_on r s (Some e) = act r s e

abbrev pub acted : Reading → Result Step Kind → Result Reading Kind
acted r (Ok t) = act_on r t.state t.event
acted r (Err k) = Err k

-- one byte
abbrev pub fed : Reading → ℕ → Result Reading Kind
fed r b = acted r (stepped r.state b)

-- where reading stopped
pub record Stop : Type 0 where
  pub kind : Kind
  pub at : ℕ

abbrev pub onward : Result Reading Kind → ℕ → (Reading → Result Reading Stop) → Result Reading Stop
onward (Ok r) i rest = rest r
onward (Err k) i rest = Err (record { kind = k; at = i })

-- all bytes; the first stands at place i
abbrev pub feeds : Reading → List ℕ → ℕ → Result Reading Stop
feeds r [] i = Ok r
feeds r (b ∷ bs) i = onward (fed r b) i (λ q. feeds q bs (i + 1))

-- a formula as it was read
pub record Content : Type 0 where
  pub variables : ℕ
  pub row : List ℕ

abbrev pub closed_at : Stage → Reading → Result Content Kind
closed_at Before r = Err NoHeader
closed_at Variables r = Err NoHeader
closed_at (Clauses v) r = Err NoHeader
closed_at (Rest h) r = Err NoHeader
closed_at (Body h k) r =
    cond (length r.clause == 0)
    (cond (k == h.clauses) (Ok (record { variables = min h.variables 32768; row = r.row })) (Err TooFewClauses))
    (Err MissingZero)

-- the text is at its end
abbrev pub closed : Reading → Result Content Kind
closed r = closed_at r.state.stage r

abbrev pub newlines : List ℕ → ℕ
newlines bs = count_by (λ b. b == 10) bs

-- the line in which the byte at a place stands
abbrev pub line_of : List ℕ → ℕ → ℕ
line_of text at = newlines (take at text) + 1

abbrev pub fault_at : List ℕ → ℕ → Kind → Fault
fault_at text at k = record { kind = k; line = line_of text at }

-- what is wrong at the text's end is told of its last line
abbrev pub fault_last : List ℕ → Kind → Fault
fault_last text k = fault_at text (length text - 1) k

abbrev pub closing : List ℕ → Result Content Kind → Result Content Fault
closing text (Ok c) = Ok c
closing text (Err k) = Err (fault_last text k)

-- the last line is ended, whether the text does so or not
abbrev pub last_line : List ℕ → Result Reading Kind → Result Content Fault
last_line text (Ok r) = closing text (closed r)
last_line text (Err k) = Err (fault_last text k)

abbrev pub after_all : List ℕ → Result Reading Stop → Result Content Fault
after_all text (Ok r) = last_line text (fed r 10)
after_all text (Err stop) = Err (fault_at text stop.at stop.kind)

-- the formula that a text has, or what is wrong with it
abbrev pub content : List ℕ → Result Content Fault
content text = after_all text (feeds begin text 0)
