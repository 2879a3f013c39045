-- What one byte of the text does to the reader's state.
use Rattle.std.specs.Prelude.{ℕ, ◌+◌, ◌-◌, ◌*◌, min, Bool, true, false, cond, ◌&&◌, ◌||◌, Some, None, Ok, Err, Result, ◌==◌, nat_le, nat_lt}
use Rattle.dimacs.specs.declared.fault.Kind.{Kind}
use Rattle.dimacs.specs.declared.fault.Kind.TheVariants.{NoHeader, BadHeader, TooManyVariables, Garbage, OutOfRange, TooManyClauses}
use Rattle.dimacs.specs.declared.step.Mode.{Mode}
use Rattle.dimacs.specs.declared.step.Mode.TheVariants.{Start, Comment, Ended, P, Blank, C, Cn, Cnf, Gap, Sign, Digits}
use Rattle.dimacs.specs.declared.step.Stage.{Stage}
use Rattle.dimacs.specs.declared.step.Stage.TheVariants.{Before, Variables, Clauses, Rest, Body}
use Rattle.dimacs.specs.declared.step.Header.{Header}
use Rattle.dimacs.specs.declared.step.State.{State}
use Rattle.dimacs.specs.declared.step.Number.{Number}
use Rattle.dimacs.specs.declared.step.Event.TheVariants.{Literal, Clause}
use Rattle.dimacs.specs.declared.step.Step.{Step}

-- a space, a tab or a carriage return
abbrev pub blank : ℕ → Bool
blank b = b == 32 || (b == 9 || b == 13)

abbrev pub digit : ℕ → Bool
digit b = nat_le 48 b && nat_le b 57

abbrev pub newline : ℕ → Bool
newline b = b == 10

-- the state with another mode, another stage, another number

abbrev pub to_mode : State → Mode → State
to_mode s m = record { mode = m; stage = s.stage }

abbrev pub to_stage : State → Stage → State
to_stage s g = record { mode = s.mode; stage = g }

abbrev pub to_number : State → Bool → ℕ → State
to_number s negative n = to_mode s (Digits (record { negative = negative; value = n }))

abbrev pub in_body : Header → ℕ → Mode → State
in_body h k m = record { mode = m; stage = Body h k }

abbrev pub still : State → Result Step Kind
still s = Ok (record { state = s; event = None })

abbrev pub mode_behind : Bool → Mode
mode_behind line = cond line Start Gap

abbrev pub stage_behind : Header → Bool → Stage
stage_behind h line = cond line (Body h 0) (Rest h)

-- a number begins
abbrev pub begun_at : Stage → State → ℕ → Result Step Kind
begun_at Before s b = Err BadHeader
begun_at Variables s b = Err BadHeader
begun_at (Clauses v) s b = Err BadHeader
begun_at (Rest h) s b = Err BadHeader
begun_at (Body h k) s b = cond (b == 45) (still (to_mode s Sign)) (Err Garbage)

abbrev pub begun : State → ℕ → Result Step Kind
begun s b = cond (digit b) (still (to_number s false (b - 48))) (begun_at s.stage s b)

-- a byte at the start of a line
abbrev pub line_begun_at : Stage → State → ℕ → Result Step Kind
line_begun_at Before s b = cond (b == 112) (still (to_mode s P)) (Err NoHeader)
line_begun_at Variables s b = cond (b == 112) (still (to_mode s P)) (Err NoHeader)
line_begun_at (Clauses v) s b = cond (b == 112) (still (to_mode s P)) (Err NoHeader)
line_begun_at (Rest h) s b = cond (b == 112) (still (to_mode s P)) (Err NoHeader)
line_begun_at (Body h k) s b = cond (b == 37) (still (to_mode s Ended)) (begun s b)

abbrev pub line_begun : State → ℕ → Result Step Kind
line_begun s b = cond (blank b || newline b) (still s) (cond (b == 99) (still (to_mode s Comment)) (line_begun_at s.stage s b))

-- a byte between numbers
abbrev pub gapped_at : Stage → State → ℕ → Result Step Kind
gapped_at Before s b = begun s b
gapped_at Variables s b = begun s b
gapped_at (Clauses v) s b = begun s b
gapped_at (Rest h) s b = cond (newline b) (still (in_body h 0 Start)) (Err BadHeader)
gapped_at (Body h k) s b = cond (newline b) (still (to_mode s Start)) (begun s b)

abbrev pub gapped : State → ℕ → Result Step Kind
gapped s b = cond (blank b) (still s) (gapped_at s.stage s b)

-- a number is ended: of a clause, or of the header

abbrev pub literal : ℕ → Bool → ℕ
literal n negative = 2 * (n - 1) + cond negative 1 0

-- behind k clauses
abbrev pub item : Header → ℕ → Number → Bool → Result Step Kind
item h k n line =
    cond (nat_lt (min h.variables 32768) n.value) (Err OutOfRange)
    (cond (nat_lt 0 n.value) (Ok (record { state = in_body h k (mode_behind line); event = Some (Literal (literal n.value n.negative)) }))
    (cond n.negative (Err Garbage)
    (cond (nat_le h.clauses k) (Err TooManyClauses)
    (Ok (record { state = in_body h (k + 1) (mode_behind line); event = Some Clause })))))

abbrev pub with_variables : ℕ → State
with_variables v = record { mode = Gap; stage = Clauses v }

abbrev pub with_clauses : ℕ → ℕ → Bool → State
with_clauses v n line = record { mode = mode_behind line; stage = stage_behind (record { variables = v; clauses = n }) line }

abbrev pub ended : Stage → Number → Bool → Result Step Kind
ended Before n line = Err BadHeader
ended Variables n line = cond line (Err BadHeader) (cond (nat_lt 32768 n.value) (Err TooManyVariables) (still (with_variables n.value)))
ended (Clauses v) n line = still (with_clauses v n.value line)
ended (Rest h) n line = Err BadHeader
ended (Body h k) n line = item h k n line

-- a byte behind a digit
abbrev pub longer : State → Number → ℕ → State
longer s n b = to_number s n.negative (min n.value 100000 * 10 + (b - 48))

abbrev pub numbered : State → Number → ℕ → Result Step Kind
numbered s n b = cond (digit b) (still (longer s n b)) (cond (blank b) (ended s.stage n false) (cond (newline b) (ended s.stage n true) (Err Garbage)))

-- a byte of the header
abbrev pub expected : State → Bool → Mode → Result Step Kind
expected s wanted m = cond wanted (still (to_mode s m)) (Err BadHeader)

abbrev pub stepped_at : Mode → State → ℕ → Result Step Kind
stepped_at Start s b = line_begun s b
stepped_at Comment s b = cond (newline b) (still (to_mode s Start)) (still s)
stepped_at Ended s b = still s
stepped_at P s b = expected s (blank b) Blank
stepped_at Blank s b = cond (blank b) (still s) (expected s (b == 99) C)
stepped_at C s b = expected s (b == 110) Cn
stepped_at Cn s b = expected s (b == 102) Cnf
stepped_at Cnf s b = expected (to_stage s Variables) (blank b) Gap
stepped_at Gap s b = gapped s b
stepped_at Sign s b = cond (digit b) (still (to_number s true (b - 48))) (Err Garbage)
stepped_at (Digits n) s b = numbered s n b

abbrev pub stepped : State → ℕ → Result Step Kind
stepped s b = stepped_at s.mode s b
