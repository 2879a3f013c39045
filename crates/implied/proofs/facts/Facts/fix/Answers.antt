use Rattle.std.proofs.Common.{◌≡◌, true, false, ◌⊎◌, get_or, ◌∙◌, ap, arith}
use Rattle.chooser.specs.Ways.{lit, some}
use Rattle.rows.proofs.Lits.{some_only}
use Rattle.implied.proofs.Pools.{below_more}
use Rattle.implied.proofs.facts.Facts.fix.Goals as goal

pub loop-m-preserved : goal.loop-m-preserved
loop-m-preserved c p x =
    let clause = c.in-Some.clause.now in
    below_more (λ k. (lit p (get_or clause k 0) ≡ false) ⊎ (get_or clause k 0 ≡ c.args.l)) c.loop-m.m-index (c.loop-m.invariant p x) (c.is_off_or.ensures c.if-not-is_off_or.false p x)

pub mark_true-requires : goal.mark_true-requires
mark_true-requires c p x =
    let clause = c.in-Some.clause.now in
    let known = c.in-Some.ensures.clause in
    let met : some (lit p) clause ≡ true = ap (some (lit p)) known.1 ∙ c.args.self.now.met c.args.c known.0 p x in
    some_only (lit p) c.args.l clause (λ k lt. c.loop-m.invariant p x k (omega arith)) met
