use Rattle.std.proofs.Common.{◌≡◌, drop}
use Rattle.syntax.specs.Tables.{declared_in}
use Rattle.verdict.specs.ByTables.{fault_of, bodies_by, goals_by, terms_by}
use Rattle.verdict.proofs.checked_terms.check_terms.Given as goal

-- the bodies that are left give the answer of all bodies
abbrev pub invariant-loop-function : goal.invariant-loop-function
invariant-loop-function l =
    (l.checker ≡ declared_in l.sig)
    × (fault_of (bodies_by (declared_in l.sig) l.bytes l.sig.functions.now)
    ≡ fault_of (bodies_by (declared_in l.sig) l.bytes (drop l.function-index l.sig.functions.now)))

-- and then the goals that are left give the answer
abbrev pub invariant-loop-goal : goal.invariant-loop-goal
invariant-loop-goal l =
    (l.checker ≡ declared_in l.sig)
    × (fault_of (terms_by (declared_in l.sig) l.bytes l.sig.functions.now l.goals)
    ≡ fault_of (goals_by (declared_in l.sig) l.bytes (drop l.goal-index l.goals)))
