-- A constructor's children are appended next, for which there is room; in the end none are left.
use Rattle.std.proofs.Common.{◌<◌, ◌≤◌, ◌++◌, length, refl, ap, arith}
use Rattle.std.proofs.Math.Seq.{take-set-lt}
use Rattle.syntax.specs.Typing.{cases_of}
use Rattle.syntax.specs.Problems.{sig_of}
use Rattle.problem.specs.Meant.{meant}
use Rattle.unknowns.specs.Listing.{row}
use Rattle.unknowns.specs.Opening.{rows_of, opened_row, kids_under}
use Rattle.unknowns.proofs.Rows.{births_next, births_done, kids_step, kids_done}
use Rattle.unknowns.proofs.Openings.{opens}
use Rattle.unknowns.proofs.table.Table.open.Goals as goal

pub loop-constructor-init : goal.loop-constructor-init
loop-constructor-init c =
    let x = row c.args.self.now c.args.at in (
      refl,
      ap (λ xs. xs ++ kids_under (meant c.args.problem.now) x 0 (cases_of (sig_of (meant c.args.problem.now)) x.ty))
          (take-set-lt c.args.self.now.len c.args.self.now.rows c.args.at (opened_row x c.args.first c.args.self.now.len) c.requires.inside),
    )

pub loop-constructor-preserved : goal.loop-constructor-preserved
loop-constructor-preserved c =
    let x = row c.args.self.now c.args.at in
    let cs = cases_of (sig_of (meant c.args.problem.now)) x.ty in
    let low : c.loop-constructor.constructor < length cs = omega arith in
    let next = births_next cs c.loop-constructor.constructor low in
    let long = ap length c.arguments.ensures.is in
    let more = c.append.ensures.len in
    let whole = c.loop-constructor.invariant.0 in (
      omega arith,
      kids_step (meant c.args.problem.now) x cs c.loop-constructor.constructor c.saturating_add-level.result c.arguments.result.now
          (rows_of c.loop-constructor.self) (rows_of c.append.new.self) _ low (omega arith) c.arguments.ensures.is c.append.ensures.rows
          c.loop-constructor.invariant.1,
    )

pub returns : goal.returns
returns c =
    let x = row c.args.self.now c.args.at in
    let cs = cases_of (sig_of (meant c.args.problem.now)) x.ty in
    let all : length cs ≤ c.loop-constructor.constructor = omega arith in
    let none = births_done cs c.loop-constructor.constructor all in
    let whole = c.loop-constructor.invariant.0 in
    opens (meant c.args.problem.now) c.args.self.now c.loop-constructor.self c.args.at c.args.first c.requires.inside
    c.args.self.now.few (omega arith)
    (record {
      long = omega arith;
      rows = kids_done (meant c.args.problem.now) x cs c.loop-constructor.constructor (rows_of c.loop-constructor.self) _ all c.loop-constructor.invariant.1;
    })
