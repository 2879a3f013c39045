-- An unknown that is closed or has no case adds no literal; and what is not written has no room, or more than 16 bits.
use Rattle.std.proofs.Common.{◌<◌, None, length, sym, ◌∙◌, subst, arith}
use Rattle.std.proofs.lemmas.List.{get_or_default}
use Rattle.held.specs.Explanations.{contains}
use Rattle.recording.specs.Conflict.{Writes, clause_of}
use Rattle.recording.proofs.Conflicts.{written_past, none_closed, none_caseless, literal_is, no_room, too_wide}
use Rattle.recording.proofs.conflict.write_clause.Goals as goal
use Rattle.recording.proofs.conflict.write_clause.Goals.{in_default-via-in-Some+in_default, in_default-via-in_default}

pub loop-at-preserved-in_default : goal.loop-at-preserved-in_default
loop-at-preserved-in_default c =
    let t = c.args.table.now in
    let cases = c.args.cases.now in
    let marks = contains c.args.because.now.words in
    let inside : c.loop-at.at < t.len = omega arith in
    let long : c.loop-at.at < length cases = omega arith in
    let read = get_or_default cases c.loop-at.at None c.index-cases-at.result long in
    written_past t cases marks c.args.goal c.loop-at.at c.loop-at.len c.loop-at.literals c.loop-at.invariant
    (elim c.in_default.branch [ in_default-via-in-Some+in_default w ↦ none_caseless t cases marks c.args.goal c.loop-at.at (read ∙ w.in_default.is-1) | in_default-via-in_default w ↦ none_closed t cases marks c.args.goal c.loop-at.at inside w.in_default.is-0 ])

pub returns-in_err-off-2 : goal.returns-in_err-off-2
returns-in_err-off-2 c =
    let t = c.args.table.now in
    let cases = c.args.cases.now in
    let marks = contains c.args.because.now.words in
    let inside : c.loop-at.at < t.len = omega arith in
    let long : c.loop-at.at < length cases = omega arith in
    let read = get_or_default cases c.loop-at.at None c.index-cases-at.result long in
    let literal =
    literal_is t cases marks c.args.goal c.loop-at.at c.in-Some-Some.first c.in-Some-Some.case inside (sym c.has.ensures ∙ c.if-not-has.false)
    c.in-Some-Some.is-0 (read ∙ c.in-Some-Some.is-1) in
    subst (Writes (clause_of t cases marks c.args.goal) c.args.literals.now c.loop-at.literals) (sym c.from_residual-in_err-off-2.ensures)
    (λ room all. too_wide t cases marks c.args.goal c.loop-at.at t.len _ inside literal c.in_err-off-2.ensures all)

pub returns-in_err-len-2 : goal.returns-in_err-len-2
returns-in_err-len-2 c =
    let t = c.args.table.now in
    let cases = c.args.cases.now in
    let marks = contains c.args.because.now.words in
    let inside : c.loop-at.at < t.len = omega arith in
    let long : c.loop-at.at < length cases = omega arith in
    let read = get_or_default cases c.loop-at.at None c.index-cases-at.result long in
    let literal =
    literal_is t cases marks c.args.goal c.loop-at.at c.in-Some-Some.first c.in-Some-Some.case inside (sym c.has.ensures ∙ c.if-not-has.false)
    c.in-Some-Some.is-0 (read ∙ c.in-Some-Some.is-1) in
    subst (Writes (clause_of t cases marks c.args.goal) c.args.literals.now c.append-in-loop-at.new.literals) (sym c.from_residual-in_err-len-2.ensures)
    (λ room all.
    no_room t cases marks c.args.goal c.loop-at.at t.len _ c.loop-at.len c.loop-at.literals c.loop-at.invariant inside literal c.in_err-len-2.ensures
    (omega (arith, room)))
