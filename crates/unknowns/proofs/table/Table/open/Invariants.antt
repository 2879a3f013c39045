-- The children appended, and those of the constructors that are left, are all that the opening appends.
use Rattle.std.proofs.Common.{◌≡◌, ◌+◌, ◌++◌, set, drop}
use Rattle.syntax.specs.Typing.{cases_of}
use Rattle.syntax.specs.Problems.{sig_of}
use Rattle.problem.specs.Meant.{meant}
use Rattle.places.specs.Places.{births}
use Rattle.unknowns.specs.Opening.{rows_of, opened_row, kids_under}
use Rattle.unknowns.proofs.table.Table.open.Given as goal

abbrev pub invariant-loop-constructor : goal.invariant-loop-constructor
invariant-loop-constructor l =
    (l.self.len + births (drop l.constructor (cases_of (sig_of (meant l.problem)) l.parent.ty))
    ≡ l.fn.self.len + births (cases_of (sig_of (meant l.problem)) l.parent.ty))
    × (rows_of l.self ++ kids_under (meant l.problem) l.parent l.constructor (drop l.constructor (cases_of (sig_of (meant l.problem)) l.parent.ty))
    ≡ set (rows_of l.fn.self) l.at (opened_row l.parent l.first l.fn.self.len)
    ++ kids_under (meant l.problem) l.parent 0 (cases_of (sig_of (meant l.problem)) l.parent.ty))
