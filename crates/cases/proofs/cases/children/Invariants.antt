use Rattle.std.proofs.Common.{◌≡◌, ◌-◌, length}
use Rattle.places.specs.Places.{from}
use Rattle.cases.proofs.cases.children.Given as goal

abbrev pub invariant-loop-child : goal.invariant-loop-child
invariant-loop-child l =
    record {
      are : l.children.items ≡ from l.case.kids (l.child - l.case.kids);
      many : length l.children.items ≡ l.child - l.case.kids;
    }
