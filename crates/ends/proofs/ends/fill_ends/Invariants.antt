use Rattle.std.proofs.Common.{◌-◌, length}
use Rattle.syntax.specs.Tables.{declared_in}
use Rattle.ends.specs.Ends.{filled}
use Rattle.ends.proofs.Filling.{Agree}
use Rattle.ends.proofs.ends.fill_ends.Given as goal

abbrev pub invariant-loop-p : goal.invariant-loop-p
invariant-loop-p l = Agree l.next (filled (declared_in l.sig) l.bytes (length l.bytes - l.p)) l.p
