use Rattle.std.proofs.Common.{◌-◌, length}
use Rattle.problem.specs.Meant.{meant}
use Rattle.loader.proofs.under_goals.Seeker.+search_under.Given as goal

abbrev pub decreases-search_under : goal.decreases-search_under
decreases-search_under g l = length (meant l.self.now.problem.now).goals - l.goal
