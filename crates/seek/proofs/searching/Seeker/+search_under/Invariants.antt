use Rattle.std.proofs.Common.{◌-◌}
use Rattle.seek.proofs.searching.Seeker.+search_under.Given as goal

abbrev pub decreases-search_under : goal.decreases-search_under
decreases-search_under g l = l.goals.end - l.goals.start
