-- The depths before were searched, each answered NONE, and what comes then counts for the whole.
use Rattle.std.proofs.Common.{◌≡◌, length}
use Rattle.problem.specs.Meant.{meant}
use Rattle.rounds.specs.Lent.{Kept}
use Rattle.loader.proofs.PastDepths.{Past}
use Rattle.loader.proofs.under_goals.Seeker.search_depths.Given as goal

abbrev pub invariant-loop-searched : goal.invariant-loop-searched
invariant-loop-searched g l =
    Kept l.initial.lent l.lent × (length l.way ≡ length l.initial.way) × (length l.answers ≡ length l.initial.answers)
    × Past (meant l.self.problem.now) (g.C.Chooser.meaning l.initial.chooser) l.self.request l.searched l.initial.answers l.answers l.session
    (g.C.Chooser.meaning l.chooser)
