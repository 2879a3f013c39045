use Rattle.std.proofs.Common.{rules, ◌+◌, ◌-◌, ◌<◌, leb, length, set, Err, sym, refl, ap, ◌∙◌, arith}
use Rattle.std.proofs.lemmas.Result.{err_from_is_err_and}
use Rattle.std.proofs.lemmas.Bool.{cond-false, lt-leb}
use Rattle.records.specs.Reading.{all_of}
use Rattle.tables.specs.declared.filling.Counts.{Counts}
use Rattle.tables.specs.declared.sections.TheConstants.{BOOL}
use Rattle.tables.proofs.Exactness.{reading_exact}
use Rattle.tables.proofs.Assembling.{types_refused, functions_refused, unknowns_refused, goals_refused, end_is_refused, tabled}
use Rattle.tables.proofs.Held.{TypeEntry, FunctionEntry, UnknownEntry, GoalEntry, entered_by, types_held, functions_held, unknowns_held, goals_held}
use Rattle.tables.proofs.filling.read_records.Goals as goal

pub returns-then-bytes-gt-MOST_BYTES : goal.returns-then-bytes-gt-MOST_BYTES
returns-then-bytes-gt-MOST_BYTES c =
    let bs = c.args.bytes.now in
    record { reads = cond-false (leb (length bs) 16384) (all_of bs) _ (lt-leb (length bs) 16384 c.if-bytes-gt-MOST_BYTES.true) ∙ ap Err (sym c.at.ensures); exact = reading_exact }

pub returns-in_err-type_count : goal.returns-in_err-type_count
returns-in_err-type_count c =
    let start = c.new-reader.ensures in
    let f = types_refused c.args.bytes.now c.if-bytes-gt-MOST_BYTES.false c.new-reader.result start.whole start.start c.in_err-type_count.ensures in
    let r = c.from_residual in
    let p = err_from_is_err_and r.result r.ensures.1 in
    rw (p.1, p.2) record { reads = f; exact = reading_exact }

pub returns-in_err-function_count : goal.returns-in_err-function_count
returns-in_err-function_count c =
    let start = c.new-reader.ensures in
    let types = c.in_ok-type_count.ensures in
    let f = functions_refused c.args.bytes.now c.if-bytes-gt-MOST_BYTES.false c.new-reader.result start.whole start.start types.section c.in_err-function_count.ensures in
    let r = c.from_residual-in_err-function_count in
    let p = err_from_is_err_and r.result r.ensures.1 in
    rw (p.1, p.2) record { reads = f; exact = reading_exact }

pub returns-in_err-unknown_count : goal.returns-in_err-unknown_count
returns-in_err-unknown_count c =
    let start = c.new-reader.ensures in
    let types = c.in_ok-type_count.ensures in
    let functions = c.in_ok-function_count.ensures in
    let f = unknowns_refused c.args.bytes.now c.if-bytes-gt-MOST_BYTES.false c.new-reader.result start.whole start.start types.section functions.section c.in_err-unknown_count.ensures in
    let r = c.from_residual-in_err-unknown_count in
    let p = err_from_is_err_and r.result r.ensures.1 in
    rw (p.1, p.2) record { reads = f; exact = reading_exact }

pub returns-in_err-goal_count : goal.returns-in_err-goal_count
returns-in_err-goal_count c =
    let start = c.new-reader.ensures in
    let types = c.in_ok-type_count.ensures in
    let functions = c.in_ok-function_count.ensures in
    let unknowns = c.in_ok-unknown_count.ensures in
    let f = goals_refused c.args.bytes.now c.if-bytes-gt-MOST_BYTES.false c.new-reader.result start.whole start.start types.section functions.section unknowns.section c.in_err-goal_count.ensures in
    let r = c.from_residual-in_err-goal_count in
    let p = err_from_is_err_and r.result r.ensures.1 in
    rw (p.1, p.2) record { reads = f; exact = reading_exact }

pub returns-in_err-end : goal.returns-in_err-end
returns-in_err-end c =
    let start = c.new-reader.ensures in
    let types = c.in_ok-type_count.ensures in
    let functions = c.in_ok-function_count.ensures in
    let unknowns = c.in_ok-unknown_count.ensures in
    let goals = c.in_ok-goal_count.ensures in
    let f = end_is_refused c.args.bytes.now c.if-bytes-gt-MOST_BYTES.false c.new-reader.result start.whole start.start types.section functions.section unknowns.section goals.section (sym c.in_err-end.ensures) in
    let r = c.from_residual-in_err-end in
    let p = err_from_is_err_and r.result r.ensures.1 in
    rw (p.1, p.2) record { reads = f; exact = reading_exact }

pub returns : goal.returns
returns c =
    let start = c.new-reader.ensures in
    let types = c.in_ok-type_count.ensures in
    let functions = c.in_ok-function_count.ensures in
    let unknowns = c.in_ok-unknown_count.ensures in
    let goals = c.in_ok-goal_count.ensures in
    let n : Counts = record { types = 1 + c.in_ok-type_count.type_count; functions = c.in_ok-function_count.function_count; unknowns = c.in_ok-unknown_count.unknown_count; goals = c.in_ok-goal_count.goal_count; start = c.place-start.result } in
    let some : 0 < length c.args.types.now = omega arith in
    let t = tabled c.args.bytes.now c.if-bytes-gt-MOST_BYTES.false c.new-reader.result start.whole start.start types.section functions.section unknowns.section goals.section (sym c.in_ok-end.ensures) n
    (types_held (length (set c.args.types.now 0 BOOL) - 1) c.args.types.now BOOL some refl refl (entered_by TypeEntry (λ p x t m. search rules) types.held))
    (functions_held c.fill.new.reader c.fill-2.new.reader functions.section.front (entered_by FunctionEntry (λ p x t m. search rules) functions.held))
    (unknowns_held (entered_by UnknownEntry (λ p x t m. search rules) unknowns.held))
    (goals_held c.fill-3.new.reader c.fill-4.new.reader goals.section.front (entered_by GoalEntry (λ p x t m. search rules) goals.held))
    c.place-start.ensures in
    record { reads = (_, t); exact = reading_exact }
