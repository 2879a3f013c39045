-- A new chooser has a variable for each goal, so the session begins, and no goal is in force at first.
use Rattle.std.proofs.Common.{◌≤◌, length, arith}
use Rattle.histories.specs.States.{not_begun}
use Rattle.problem.specs.Meant.{meant}
use Rattle.problem.proofs.Lawfulness.{lawful}
use Rattle.loader.proofs.Forcing.{begun_accepted, begin_accepted_by}
use Rattle.loader.proofs.searching.search_with.Goals as goal

pub unreachable-requires : goal.unreachable-requires
unreachable-requires g c =
    let p = meant c.args.problem.now in
    let few : length p.goals ≤ g.C.Chooser.MAX_VARIABLES = omega (arith, (lawful c.args.problem.now).few_goals, c.requires.most) in
    begin_accepted_by c.requires.fresh c.begin.new.self c.in_default.field-0 few (c.in_default.ensures.begins not_begun c.new-session.ensures)

pub search_under-requires-clause-put : goal.search_under-requires-clause-put
search_under-requires-clause-put g c =
    (begun_accepted c.requires.fresh c.begin.new.self c.in-Ok.field-0 (c.in-Ok.ensures.begins not_begun c.new-session.ensures)).ready

pub returns : goal.returns
returns g c =
    record {
      made = g.C.Chooser.meaning c.args.chooser.now;
      fresh = c.requires.fresh;
      means = g.C.Chooser.meaning c.begin.new.chooser;
      switched = (begun_accepted c.requires.fresh c.begin.new.self c.in-Ok.field-0 (c.in-Ok.ensures.begins not_begun c.new-session.ensures)).switched;
      sought = c.search_under.ensures;
    }
