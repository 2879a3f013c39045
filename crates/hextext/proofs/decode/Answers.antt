use Rattle.std.proofs.Common.{◌+◌, sym, ◌∙◌, get_or, take}
use Rattle.std.specs.List.{filter}
use Rattle.hextext.specs.Digits.{is_digit, Written}
use Rattle.hextext.proofs.Pairs.{digit_more, other_more, Written-nil}
use Rattle.hextext.proofs.decode.Goals as goal
use Rattle.hextext.proofs.decode.Goals.{in-Some+in_ok-high-in-Some, in-None}

pub loop-b-init : goal.loop-b-init
loop-b-init c = rw c.new-bytes.ensures.items Written-nil

pub loop-b-preserved : goal.loop-b-preserved
loop-b-preserved c =
    let text = c.args.text.now in
    let i = c.loop-b.b-index in
    elim c.match-digit.branch [
      | in-Some+in_ok-high-in-Some w ↦
          let more = digit_more c.args.capitals text i w.in-Some.low c.loop-b-test.true (sym c.digit.ensures ∙ w.in-Some.is) in
          let added : Written (filter (is_digit c.args.capitals) (take (i + 1) text)) w.add.new.bytes.items w.in_ok-high-in-Some.high =
          rw more.0 (w.in_ok-high-in-Some.ensures (filter (is_digit c.args.capitals) (take i text)) (get_or text i 0) c.loop-b.invariant more.1) in
          rw (w.bytes-is, w.high-is) added
      | in-None w ↦
          let same = other_more c.args.capitals text i c.loop-b-test.true (sym c.digit.ensures ∙ w.in-None.is) in
          let kept : Written (filter (is_digit c.args.capitals) (take (i + 1) text)) c.loop-b.bytes.items c.loop-b.high =
          rw same c.loop-b.invariant in
          rw (w.bytes-is, w.high-is) kept
    ]
