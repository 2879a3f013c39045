-- Judging, run by its definition: how steps are counted, what is out of steps for ever, and how `and` explains its false.
-- Assumes nothing.
use Rattle.std.specs.Prelude.{◌≡◌, ℕ, zero, suc, [], ◌∷◌}
use Rattle.std.proofs.Math.Option.{Option, none, some}
use Rattle.syntax.specs.Terms.{Term, unknown, con, call, case, both, equal, t[], ◌t∷◌, var}
use Rattle.syntax.specs.Values.{Values, build, v[], ◌v∷◌}
use Rattle.syntax.specs.Problems.{Problem}
use Rattle.judging.specs.Held.{Held, h[], ◌h∷◌, hold, free, goal}
use Rattle.judging.specs.Judging.{is, waits, judge}
use Rattle.judging.specs.Paths.{Path, root, child, Decision, under}
use Rattle.judging.specs.Assignments.{choice}

abbrev pub undecided : Decision
undecided u = none

-- Natural numbers (type 1: zero, and the successor of one), one unknown of them, and the goal that it is 2.
abbrev pub two : Term
two = con 1 1 (con 1 1 (con 1 0 t[] t∷ t[]) t∷ t[])

abbrev pub is_two : Problem
is_two =
    record {
      types = ([] ∷ ((1 ∷ []) ∷ [])) ∷ [];
      functions = [];
      unknowns = 1 ∷ [];
      goals = equal 1 (unknown 0) two ∷ [];
    }

-- the assignment of 2
abbrev pub twice : Values
twice = build 1 (build 1 (build 0 v[] v∷ v[]) v∷ v[]) v∷ v[]

-- The goal is true with 9 steps, and with 8 it is OUT: the equal term, the unknown and the constructor take one each, and
-- each of the two pairs of arguments takes one for comparing and two for its heads.
abbrev pub NineSteps : Type 0
NineSteps =
    (judge is_two (under is_two (choice twice)) (goal is_two 0) 9
    ≡ some (is 1 h[] (root 0 ∷ (child (root 0) 1 0 ∷ (child (child (root 0) 1 0) 1 0 ∷ []))), 0))
    × (judge is_two (under is_two (choice twice)) (goal is_two 0) 8 ≡ none)

-- undecided, the unknown is waited on once both sides are asked for: three steps, and two are too few
abbrev pub RightAsked : Type 0
RightAsked =
    (judge is_two (under is_two undecided) (goal is_two 0) 3 ≡ some (waits (root 0), 0))
    × (judge is_two (under is_two undecided) (goal is_two 0) 2 ≡ none)

-- A function whose body only calls itself, two unknowns of Bool, and goals: a call of that function; unknown 0 and unknown 1;
-- "if unknown 0 then that function's result, else true" and false.
abbrev pub loop : Term
loop = call 0 t[]

abbrev pub loops : Problem
loops =
    record {
      types = [];
      functions = record { profile = record { params = []; result = 0 }; body = loop } ∷ [];
      unknowns = 0 ∷ (0 ∷ []);
      goals = loop ∷ (both (unknown 0) (unknown 1)
          ∷ (both (case 0 (unknown 0) (con 0 1 t[] t∷ loop t∷ t[])) (con 0 0 t[]) ∷ []));
    }

abbrev pub Loops : Type 0
Loops = (δ : Decision) (s : ℕ) → judge loops (under loops δ) (goal loops 0) s ≡ none

-- unknowns 0 and 1 as given, and no others decided
abbrev pub deciding_two : Option ℕ → Option ℕ → Decision
deciding_two a b (root zero) = a
deciding_two a b (root (suc zero)) = b
deciding_two a b (root (suc (suc k))) = none
deciding_two a b (child u c j) = none

-- unknown 0 and unknown 1: left's false is the answer, and right is not asked; right's false has right's explanation alone, where
-- left is true and where it waits; two trues join; else left's unknown is waited on if left waits
abbrev pub AndRules : Type 0
AndRules =
    (judge loops (under loops (deciding_two (some 0) none)) (goal loops 1) 2 ≡ some (is 0 h[] (root 0 ∷ []), 0))
    × (judge loops (under loops (deciding_two (some 1) (some 0))) (goal loops 1) 3 ≡ some (is 0 h[] (root 1 ∷ []), 0))
    × (judge loops (under loops (deciding_two none (some 0))) (goal loops 1) 3 ≡ some (is 0 h[] (root 1 ∷ []), 0))
    × (judge loops (under loops (deciding_two (some 1) (some 1))) (goal loops 1) 3 ≡ some (is 1 h[] (root 0 ∷ (root 1 ∷ [])), 0))
    × (judge loops (under loops (deciding_two (some 1) none)) (goal loops 1) 3 ≡ some (waits (root 1), 0))
    × (judge loops (under loops (deciding_two none (some 1))) (goal loops 1) 3 ≡ some (waits (root 0), 0))
    × (judge loops (under loops undecided) (goal loops 1) 3 ≡ some (waits (root 0), 0))

abbrev pub true_at_root : Decision
true_at_root (root k) = some 1
true_at_root (child u c j) = none

-- A decided unknown makes the left side of an `and` run for ever, where undecided it lets the right side's false decide.
abbrev pub LeftForEver : Type 0
LeftForEver =
    (judge loops (under loops undecided) (goal loops 2) 4 ≡ some (is 0 h[] [], 0))
    × ((s : ℕ) → judge loops (under loops true_at_root) (goal loops 2) s ≡ none)

-- The predecessor of a natural number. A branch's variables are the next after those in scope: the parameter is variable 0, and so
-- in the branch of the successor its argument is variable 1.
abbrev pub predecessor : Problem
predecessor =
    record {
      types = ([] ∷ ((1 ∷ []) ∷ [])) ∷ [];
      functions =
          record { profile = record { params = 1 ∷ []; result = 1 }; body = case 1 (var 0) (var 0 t∷ var 1 t∷ t[]) } ∷ [];
      unknowns = 1 ∷ [];
      goals = [];
    }

abbrev pub predecessor_of : Term → Held Path
predecessor_of t = hold (call 0 (t t∷ t[])) h[]

-- of 2 it is 1; of the unknown, with 2 assigned to it, it is explained by the subject and the branch; it waits if its subject does
abbrev pub CaseRules : Type 0
CaseRules =
    (judge predecessor (under predecessor undecided) (predecessor_of two) 6
    ≡ some (is 1 (hold (con 1 0 t[]) h[] h∷ h[]) [], 0))
    × (judge predecessor (under predecessor (choice twice)) (predecessor_of (unknown 0)) 6
    ≡ some (is 1 (free (child (child (root 0) 1 0) 1 0) h∷ h[]) (root 0 ∷ (child (root 0) 1 0 ∷ [])), 0))
    × (judge predecessor (under predecessor undecided) (predecessor_of (unknown 0)) 4 ≡ some (waits (root 0), 0))

-- Pairs of natural numbers (type 2), two unknowns of type 1 and one of type 2, and goals that a pair of the first two is (0, 2)
-- and that the third is.
abbrev pub zero_term : Term
zero_term = con 1 0 t[]

abbrev pub pair : Term → Term → Term
pair a b = con 2 0 (a t∷ b t∷ t[])

abbrev pub pairings : Problem
pairings =
    record {
      types = ([] ∷ ((1 ∷ []) ∷ [])) ∷ (((1 ∷ (1 ∷ [])) ∷ []) ∷ []);
      functions = [];
      unknowns = 1 ∷ (1 ∷ (2 ∷ []));
      goals = equal 2 (pair (unknown 0) (unknown 1)) (pair zero_term two) ∷ (equal 2 (unknown 2) (pair zero_term two) ∷ []);
    }

-- the third is decided, and of its arguments only the second, as zero
abbrev pub third_decided : Decision
third_decided (root k) = some 0
third_decided (child u c zero) = none
third_decided (child u c (suc j)) = some 0

-- Arguments are compared past a waiting pair. A false pair decides, with its own explanation and the two heads', and not that of
-- the pairs before; else the first waiting pair is waited on.
abbrev pub PairRules : Type 0
PairRules =
    (judge pairings (under pairings (deciding_two none (some 0))) (goal pairings 0) 9 ≡ some (is 0 h[] (root 1 ∷ []), 0))
    × (judge pairings (under pairings (deciding_two (some 0) (some 0))) (goal pairings 0) 9 ≡ some (is 0 h[] (root 1 ∷ []), 0))
    × (judge pairings (under pairings (deciding_two (some 1) none)) (goal pairings 0) 6 ≡ some (is 0 h[] (root 0 ∷ []), 0))
    × (judge pairings (under pairings (deciding_two (some 0) none)) (goal pairings 0) 9 ≡ some (waits (root 1), 0))
    × (judge pairings (under pairings undecided) (goal pairings 0) 9 ≡ some (waits (root 0), 0))
    × (judge pairings (under pairings third_decided) (goal pairings 1) 9 ≡ some (is 0 h[] (root 2 ∷ (child (root 2) 0 1 ∷ [])), 0))

abbrev pub Examples : Type 0
Examples = NineSteps × RightAsked × Loops × AndRules × LeftForEver × CaseRules × PairRules
