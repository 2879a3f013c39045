-- A stack of tasks in a slice that is lent. Assumes nothing.
use Rattle.std.specs.Prelude.{ℕ, List, length, reverse, take}
use Rattle.terms.specs.declared.tasks.Task.{Task}
use Rattle.terms.specs.declared.lent_stack.LentStack.{LentStack}

-- the tasks that are on it, the topmost first
abbrev pub on : LentStack → List Task
on s = reverse (take s.len s.tasks.now)

-- how many tasks it can hold
abbrev pub room : LentStack → ℕ
room s = length s.tasks.now
