use Rattle.std.proofs.Common.{◌+◌, ◌*◌}
use Rattle.judge.proofs.judge.Judge.+judging.Given as goal

abbrev pub decreases-arguments : goal.decreases-arguments
decreases-arguments g l = 512 * l.left.now.steps + 1 + l.count

abbrev pub decreases-compare : goal.decreases-compare
decreases-compare g l = 512 * l.left.now.steps

abbrev pub decreases-compared : goal.decreases-compared
decreases-compared g l = 512 * l.left.now.steps + 300

abbrev pub decreases-head : goal.decreases-head
decreases-head g l = 512 * l.left.now.steps

abbrev pub decreases-head_of_and : goal.decreases-head_of_and
decreases-head_of_and g l = 512 * l.left.now.steps + 300

abbrev pub decreases-head_of_case : goal.decreases-head_of_case
decreases-head_of_case g l = 512 * l.left.now.steps + 300

abbrev pub decreases-head_of_term : goal.decreases-head_of_term
decreases-head_of_term g l = 512 * l.left.now.steps + 400
