-- A lawful problem has at most 32 goals, so their numbers fit a byte.
use Rattle.std.proofs.Common.{arith}
use Rattle.problem.proofs.Lawfulness.{lawful}
use Rattle.seek.proofs.searching.Seeker.seek.Goals as goal

pub overflow_cast-goals : goal.overflow_cast-goals
overflow_cast-goals g c = let few = (lawful c.args.self.now.problem.now).few_goals in let goals = c.goals.ensures in omega (arith, few, goals)
