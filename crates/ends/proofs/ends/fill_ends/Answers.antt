use Rattle.std.proofs.Common.{◌≡◌, ◌+◌, ◌-◌, ◌<◌, length, sym, ap, ◌∙◌, subst, arith}
use Rattle.syntax.specs.Tables.{declared_in}
use Rattle.ends.specs.Ends.{Ends, at_most, filled}
use Rattle.ends.proofs.Filling.{Agree, agree_none, agree_more, agree_all, min_at_most, ends_stand}
use Rattle.ends.proofs.ends.fill_ends.Goals as goal

pub loop-p-init : goal.loop-p-init
loop-p-init c = agree_none (declared_in c.args.sig) c.args.bytes.now c.args.next.now c.requires.long

pub loop-p-preserved : goal.loop-p-preserved
loop-p-preserved c =
    let sig = declared_in c.args.sig in
    let bytes = c.args.bytes.now in
    let n = length bytes in
    let l = c.loop-p in
    let q = l.p - 1 in
    let back : l.p ≡ q + 1 = omega arith in
    let long : length l.next ≡ n = omega arith in
    let low : q < n = omega arith in
    let old : Agree l.next (filled sig bytes (n - (q + 1))) (q + 1) = subst (λ k. Agree l.next (filled sig bytes (n - k)) k) back l.invariant in
    agree_more sig bytes l.next q c.min.result low long old (c.min.ensures ∙ min_at_most n c.end_of-end.result ∙ ap (at_most n) c.end_of-end.ensures)

pub returns : goal.returns
returns c =
    let sig = declared_in c.args.sig in
    let bytes = c.args.bytes.now in
    let l = c.loop-p in
    let none : l.p ≡ 0 = omega arith in
    let e = agree_all sig bytes l.next (subst (λ k. Agree l.next (filled sig bytes (length bytes - k)) k) none l.invariant) in
    record { exact = e; ends = subst (λ t. Ends sig bytes t 0) (sym e) (ends_stand sig bytes) }
