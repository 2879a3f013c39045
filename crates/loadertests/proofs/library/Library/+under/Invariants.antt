use Rattle.std.proofs.Common.{◌-◌}
use Rattle.loadertests.proofs.library.Library.+under.Given as goal

abbrev pub decreases-under : goal.decreases-under
decreases-under g l = l.goals.end - l.goals.start
