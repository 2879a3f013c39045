use Rattle.std.proofs.Common.{arith}
use Rattle.cases.proofs.Children.{next_child}
use Rattle.cases.proofs.cases.children.Goals as goal

pub loop-child-preserved : goal.loop-child-preserved
loop-child-preserved c =
    let inv = c.loop-child.invariant in
    record {
      are = next_child c.args.case.now.kids c.loop-child.child c.loop-child.children.items _ (omega (arith, c.from.ensures)) inv.are c.push.ensures.items;
      many = omega (arith, inv.many, c.push.ensures.len);
    }
