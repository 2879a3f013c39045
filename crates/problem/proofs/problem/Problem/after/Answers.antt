use Rattle.std.proofs.Common.{◌≡◌, rules}
use Rattle.ends.specs.Ends.{hop}
use Rattle.problem.specs.Meant.{held, sig, ends}
use Rattle.problem.proofs.Views.{comes_after}
use Rattle.problem.proofs.problem.Problem.after.Goals as goal

pub returns-clause-after : goal.returns-clause-after
returns-clause-after c =
    let p = c.args.self.now in
    let is : c.map_or.result ≡ hop (ends p) c.args.place = search rules in
    comes_after (sig p) (held p) c.args.place c.map_or.result is
