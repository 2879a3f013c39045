-- Each goal is put in its turn. None is refused, since the goals below it alone are in force.
use Rattle.std.proofs.Common.{◌+◌, ◌-◌, ◌<◌, length, rules, arith}
use Rattle.problem.specs.Meant.{meant}
use Rattle.loader.proofs.Forcing.{put_one}
use Rattle.loader.proofs.under_goals.Seeker.+search_under.Goals as goal

pub search_under-found-requires : goal.search_under-found-requires
search_under-found-requires g t c κs within =
    let p = meant c.args.self.now.problem.now in
    let M = g.C.Chooser.meaning c.args.chooser.now in
    let inside : c.args.goal < length p.goals = omega (arith, c.from.ensures, c.goals.ensures) in
    let next = put_one p M c.args.goal inside {s' = c.put.new.self} c.requires.put c.put.ensures.state in
    let fall : length p.goals - (c.args.goal + 1) < t = omega (arith, c.decreases) in
    (fall, (within, (next, search rules)))
