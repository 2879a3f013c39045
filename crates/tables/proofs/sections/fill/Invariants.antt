use Rattle.std.proofs.Common.{◌-◌}
use Rattle.tables.specs.Sections.{Filled, MadeOf, Entered}
use Rattle.tables.proofs.Turns.{Upto}
use Rattle.tables.proofs.sections.fill.Given as goal

abbrev pub invariant-loop-entry : goal.invariant-loop-entry
invariant-loop-entry g l =
    Filled (Upto g.R.Record.reading g.R.Record.writing g.R.Record.high g.R.Record.low l.most l.initial.reader l.reader)
    (Entered (MadeOf g.R.Record.IsAt g.R.Record.meaning (goal.F-post g l.entry)) g.R.Record.writing l.initial.reader.at l.table l.n)

abbrev pub decreases-loop-entry : goal.decreases-loop-entry
decreases-loop-entry g l = l.most - l.n
