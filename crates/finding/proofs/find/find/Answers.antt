use Rattle.problem.proofs.Lawfulness.{lawful}
use Rattle.finding.proofs.ByCases.{finds}
use Rattle.unknowns.specs.Force.{forced}
use Rattle.finding.proofs.find.find.Goals as goal

pub returns-clause-found_as : goal.returns-clause-found_as
returns-clause-found_as c =
    record {
      finds = λ t T count w stands decides all.
          finds _ (lawful c.args.problem.now) t T count w c.args.cases.now stands decides (forced c.args.force.now) c.args.steps _ _ all
          c.judge_goals.ensures;
    }
