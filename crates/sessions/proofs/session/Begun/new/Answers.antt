-- A lawful problem has at most 32 goals.
use Rattle.std.proofs.Common.{refl, sym, arith}
use Rattle.problem.specs.Meant.{meant}
use Rattle.problem.proofs.Lawfulness.{lawful}
use Rattle.sessions.proofs.Starts.{shows_start}
use Rattle.sessions.proofs.session.Begun.new.Goals as goal

pub overflow_cast-result : goal.overflow_cast-result
overflow_cast-result c = let few = (lawful c.args.problem.now).few_goals in let goals = c.goals-goals.ensures in omega (arith, few, goals)

pub invariant_of-result : goal.invariant_of-result
invariant_of-result c = let few = (lawful c.args.problem.now).few_goals in let goals = c.goals-goals.ensures in record { few = omega (arith, few, goals) }

pub returns : goal.returns
returns c =
    λ M counts left.
    shows_start (meant c.args.problem.now) _ M c.goals-goals.ensures refl c.new.ensures c.goals-goals.ensures (sym left) refl counts
