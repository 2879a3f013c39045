use Rattle.std.proofs.Common.{◌≡◌, ◌*◌, ◌≤◌}
use Rattle.syntax.specs.Problems.{sig_of}
use Rattle.syntax.specs.Typing.{cases_of}
use Rattle.problem.specs.Meant.{meant}
use Rattle.places.specs.Places.{offset}
use Rattle.cases.proofs.decide.children_before.Given as goal

abbrev pub invariant-loop-earlier : goal.invariant-loop-earlier
invariant-loop-earlier l =
    record {
      is : l.before ≡ offset (cases_of (sig_of (meant l.problem)) l.ty) l.earlier;
      few : l.before ≤ 6 * l.earlier;
    }
