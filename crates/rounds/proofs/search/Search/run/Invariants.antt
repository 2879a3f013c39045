-- Each round before opened an unknown or recorded a conflict, and what comes then counts for the whole with them added.
use Rattle.rounds.specs.Lent.{Kept}
use Rattle.rounds.specs.Going.{Going}
use Rattle.rounds.proofs.search.Search.run.Given as goal

abbrev pub invariant-loop-made : goal.invariant-loop-made
invariant-loop-made g l =
    Kept l.initial.lent l.lent
    × Going l.self l.made l.opened l.recorded (g.C.Chooser.meaning l.initial.chooser) l.initial.table l.table (g.C.Chooser.meaning l.chooser)
