-- Without variables, no literal is of an allotted one.
use Rattle.std.proofs.Common.{rules, ◌≡◌, ℕ, ◌==◌, false, cond, List, [], ◌∷◌, length, sym, ap}
use Rattle.chooser.specs.Ways.{allotted}

none_allotted : (ls : List ℕ) → (length ls == 0) ≡ false → allotted 0 ls ≡ false
none_allotted [] some = search rules
none_allotted (l ∷ ls) some = search rules

pub unallotted : (ls : List ℕ) (n : ℕ) → (length ls == 0) ≡ false → 62 ≡ cond (allotted 0 ls) n 62
unallotted ls n some = sym (ap (λ b. cond b n 62) (none_allotted ls some))
