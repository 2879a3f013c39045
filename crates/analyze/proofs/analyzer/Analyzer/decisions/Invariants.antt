use Rattle.implied.specs.Implied.{allowed}
use Rattle.analyze.proofs.Jumps.{Deciding}
use Rattle.analyze.proofs.analyzer.Analyzer.decisions.Given as goal

abbrev pub invariant-loop-i : goal.invariant-loop-i
invariant-loop-i l = Deciding (allowed l.search.facts.store.row.items) l.search.trail.steps.items l.i l.self.clause.items l.last
