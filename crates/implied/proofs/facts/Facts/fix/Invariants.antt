use Rattle.std.proofs.Common.{◌≡◌, ℕ, ◌<◌, Bool, true, false, ◌⊎◌, get_or}
use Rattle.chooser.specs.Ways.{lit}
use Rattle.implied.specs.Implied.{allowed}
use Rattle.implied.proofs.facts.Facts.fix.Given as goal

abbrev pub invariant-loop-m : goal.invariant-loop-m
invariant-loop-m l = (p : ℕ → Bool) → allowed l.fn.self.store.row.items p ≡ true → (k : ℕ) → k < l.m-index → (lit p (get_or l.clause k 0) ≡ false) ⊎ (get_or l.clause k 0 ≡ l.l)
