-- What was found decides how the round ends.
use Rattle.std.proofs.Common.{◌≤◌, length, arith}
use Rattle.chooser.specs.Meaning.{Meaning}
use Rattle.problem.specs.Meant.{meant}
use Rattle.rounds.proofs.Turning.{same_stands, out_turn, model_turn, recorded_turn, too_long_turn}
use Rattle.rounds.proofs.search.Search.judge.Goals as goal

pub returns-in-Out-clause-judged : goal.returns-in-Out-clause-judged
returns-in-Out-clause-judged g c =
    record {
      turns =
          λ T R M₀ w pk room d.
          out_turn c.args.self.now.limits.steps pk c.in-Out.goal (c.in-Out.ensures.found_as.finds c.args.table.now T M₀.count w pk.stands d pk.goes_by.decides);
    }

pub returns-in-Ok-clause-judged : goal.returns-in-Ok-clause-judged
returns-in-Ok-clause-judged g c =
    let M : Meaning = g.C.Chooser.meaning c.args.chooser.now in
    record {
      turns =
          λ T R M₀ w pk room d.
          let f = c.in-False.ensures.found_as.finds c.args.table.now T M₀.count w pk.stands d pk.goes_by.decides in
          let same = pk.same.counts in
          let enough : M.count ≤ length c.args.lent.now.literals.now = omega (arith, same, room) in
          let r = c.in-Ok.ensures.records.says (meant c.args.self.now.problem.now) T w (same_stands pk.same pk.stands) d f.4 enough in
          let long = f.3 in
          recorded_turn c.args.self.now.limits.steps pk f.1 f.2 (omega (arith, long)) r.0 r.1;
    }

pub returns-in-Err-clause-judged : goal.returns-in-Err-clause-judged
returns-in-Err-clause-judged g c =
    let M : Meaning = g.C.Chooser.meaning c.args.chooser.now in
    record {
      turns =
          λ T R M₀ w pk room d.
          let f = c.in-False.ensures.found_as.finds c.args.table.now T M₀.count w pk.stands d pk.goes_by.decides in
          let same = pk.same.counts in
          let enough : M.count ≤ length c.args.lent.now.literals.now = omega (arith, same, room) in
          let r = c.in-Err.ensures.records.says (meant c.args.self.now.problem.now) T w (same_stands pk.same pk.stands) d f.4 enough in
          let long = f.3 in
          too_long_turn c.args.self.now.limits.steps pk f.1 f.2 (omega (arith, long)) r.0 r.1;
    }

pub returns-in-Waiting-clause-judged : goal.returns-in-Waiting-clause-judged
returns-in-Waiting-clause-judged g c =
    record {
      turns =
          λ T R M₀ w pk room d.
          let f = c.in-Waiting.ensures.found_as.finds c.args.table.now T M₀.count w pk.stands d pk.goes_by.decides in
          c.open.ensures.turns T R M₀ w c.args.cases.now f.0 pk f.1 f.2 f.3;
    }

pub returns-in-True-clause-judged : goal.returns-in-True-clause-judged
returns-in-True-clause-judged g c =
    record {
      turns =
          λ T R M₀ w pk room d.
          model_turn c.args.self.now.limits.steps pk d (c.in-True.ensures.found_as.finds c.args.table.now T M₀.count w pk.stands d pk.goes_by.decides);
    }
