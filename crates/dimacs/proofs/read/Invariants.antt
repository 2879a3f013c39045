-- The bytes that are left, from what was read so far, come to what the whole text comes to.
use Rattle.std.proofs.Common.{◌≡◌, drop}
use Rattle.dimacs.specs.Feed.{begin, feeds}
use Rattle.dimacs.specs.Read.{reading}
use Rattle.dimacs.proofs.read.Given as goal

abbrev pub invariant-loop-i : goal.invariant-loop-i
invariant-loop-i l = feeds begin l.text 0 ≡ feeds (reading l.reader) (drop l.i-counter l.text) l.i-counter
