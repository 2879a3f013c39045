use Rattle.std.proofs.Common.{◌≡◌, ℕ, ◌<◌, Bool, true, get_or}
use Rattle.implied.specs.Implied.{allowed}
use Rattle.analyze.specs.Analysis.{Grows}
use Rattle.analyze.proofs.Draws.{Part}
use Rattle.analyze.proofs.analyzer.Analyzer.absorb.Given as goal

abbrev pub invariant-loop-m : goal.invariant-loop-m
invariant-loop-m l = record {
  grows : Grows l.initial.self.seen.items l.self.seen.items;
  clause : l.self.clause ≡ l.initial.self.clause;
  parts : (p : ℕ → Bool) → allowed l.search.facts.store.row.items p ≡ true → (k : ℕ) → k < l.m-index → Part p l.search.trail.steps.items l.self.seen.items l.i l.but (get_or l.clause k 0);
}
