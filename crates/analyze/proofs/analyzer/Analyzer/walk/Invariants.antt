use Rattle.std.proofs.Common.{◌≡◌, ℕ, ◌+◌, ◌≤◌, Bool, true, length}
use Rattle.implied.specs.Implied.{allowed}
use Rattle.analyze.proofs.Draws.{Walked}
use Rattle.analyze.proofs.analyzer.Analyzer.walk.Given as goal

abbrev pub invariant-loop-i : goal.invariant-loop-i
invariant-loop-i l = record {
  walked : (p : ℕ → Bool) → allowed l.search.facts.store.row.items p ≡ true → Walked p l.search.trail.steps.items l.self.seen.items l.self.clause.items l.i;
  short : length l.self.clause.items + l.i ≤ length l.search.trail.steps.items;
}
