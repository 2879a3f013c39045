-- The chooser is new, and has a variable left for each goal.
use Rattle.std.proofs.Common.{rules, Err, ap, ◌∙◌, arith}
use Rattle.std.proofs.lemmas.Result.{err_from_is_err_and}
use Rattle.problem.proofs.Lawfulness.{lawful}
use Rattle.sessions.specs.declared.faults.SessionFault.TheVariants.{TooFewVariables}
use Rattle.sessions.proofs.Starts.{refused_old, refused_few, begun_so}
use Rattle.sessions.proofs.session.Session.begin.Goals as goal

pub returns-then-not-is_new-clause-begins : goal.returns-then-not-is_new-clause-begins
returns-then-not-is_new-clause-begins g c = λ S h. refused_old c.is_new.ensures.new c.is_new.ensures.same (search rules) h

pub overflow_cast-goals : goal.overflow_cast-goals
overflow_cast-goals g c = let few = (lawful c.args.problem.now).few_goals in let goals = c.goals.ensures in omega (arith, few, goals)

pub returns-in_err-allot_switches-clause-begins : goal.returns-in_err-allot_switches-clause-begins
returns-in_err-allot_switches-clause-begins g c =
    let few = c.in_err-allot_switches.ensures in
    let carried = err_from_is_err_and c.from_residual.result c.from_residual.ensures.1 in
    λ S h.
    refused_few c.is_new.ensures.new c.is_new.ensures.same c.goals.result (search rules) c.goals.ensures few.0 few.1
    (carried.1 ∙ ap Err (carried.2 ∙ ap TooFewVariables few.2)) h

pub returns-clause-begins : goal.returns-clause-begins
returns-clause-begins g c =
    λ S h.
    begun_so c.is_new.ensures.new c.is_new.ensures.same c.new.result c.goals.result (lawful c.args.problem.now) (search rules) c.goals.ensures
    c.in_ok-allot_switches.ensures.0 c.in_ok-allot_switches.ensures.1 c.entries_left.ensures c.new.ensures
