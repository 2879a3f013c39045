use Rattle.std.proofs.Common.{take}
use Rattle.std.specs.List.{filter}
use Rattle.hextext.specs.Digits.{is_digit, Written}
use Rattle.hextext.proofs.decode.Given as goal

abbrev pub invariant-loop-b : goal.invariant-loop-b
invariant-loop-b l = Written (filter (is_digit l.capitals) (take l.b-index l.text)) l.bytes.items l.high
