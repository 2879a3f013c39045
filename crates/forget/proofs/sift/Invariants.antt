use Rattle.implied.specs.Implied.{allowed, Met}
use Rattle.forget.proofs.sift.Given as goal

abbrev pub invariant-loop-c : goal.invariant-loop-c
invariant-loop-c l = Met (allowed l.facts.store.row.items) l.spare
