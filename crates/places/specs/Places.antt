-- The table as code has it: an unknown is its place in the table, and what is opened has the place of its first child.
-- Assumes nothing.
use Rattle.std.specs.Prelude.{◌≡◌, ℕ, zero, suc, ◌+◌, ◌<◌, Bool, cond, List, [], ◌∷◌, map, length, slice_index_or}
use Rattle.std.proofs.Math.Option.{Option, none, some}
use Rattle.syntax.specs.Problems.{Problem}
use Rattle.judging.specs.Judging.{Unknowns}
use Rattle.judging.specs.Paths.{Path, root, child}
use Rattle.finder.specs.Tables.{cases_at, width, arity, Entry, Table, closed_entry, paths, opening}
use Rattle.finder.specs.Ways.{Way, case_of}
use Rattle.finder.specs.Clauses.{off}
use Rattle.finder.specs.Findings.{Finding, out_of_steps, false_goal, waiting_goal, all_true}

-- the path at a place
abbrev pub at : Table → ℕ → Path
at T i = slice_index_or (paths T) i (root 0)

abbrev pub entry_at : Table → ℕ → Entry
entry_at T i = slice_index_or T i (closed_entry (root 0))

-- where the arguments of constructor c begin among the children, which stand by constructor, then argument
abbrev pub offset : List (List ℕ) → ℕ → ℕ
offset [] c = 0
offset (ts ∷ cs) zero = 0
offset (ts ∷ cs) (suc c) = length ts + offset cs c

-- how many children an opening appends
abbrev pub births : List (List ℕ) → ℕ
births [] = 0
births (ts ∷ cs) = length ts + births cs

-- The problem's unknowns stand first, in order, and `kids i` is the place of the first child of what is opened at i.
pub record Placed (p : Problem) (T : Table) (kids : ℕ → ℕ) : Type 0 where
  pub roots_first : (k : ℕ) → k < length p.unknowns → (k < length T) × (at T k ≡ root k)
  pub kids_placed : (i a c j : ℕ) → i < length T → opening T (at T i) ≡ some a → c < width p (at T i) → j < arity p (at T i) c
      → (kids i + (offset (cases_at p (at T i)) c + j) < length T) × (at T (kids i + (offset (cases_at p (at T i)) c + j)) ≡ child (at T i) c j)

abbrev pub from : ℕ → ℕ → List ℕ
from i zero = []
from i (suc m) = i ∷ from (suc i) m

-- the case that w gives the entry at a place
abbrev pub case_in : Problem → Way → Entry → Option ℕ
case_in p w x = case_of w (width p x.path) x.first

-- the unknowns by their places, as judging asks for them
abbrev pub places : Problem → Table → (ℕ → ℕ) → Way → Unknowns ℕ
places p T first-kid w =
    record {
      roots = λ k. k;
      kids = λ i c. from (first-kid i + offset (cases_at p (at T i)) c) (arity p (at T i) c);
      chosen = λ i. case_in p w (entry_at T i);
    }

-- a finding by other names
abbrev pub named_finding : {U V : Type 0} → (U → V) → Finding U → Finding V
named_finding f (out_of_steps g) = out_of_steps g
named_finding f (false_goal g E) = false_goal g (map f E)
named_finding f (waiting_goal g u) = waiting_goal g (f u)
named_finding f all_true = all_true

-- the literals that say that the case of an entry differs
abbrev pub differing : Option ℕ → Option ℕ → List ℕ → List ℕ
differing none c ls = ls
differing (some a) none ls = ls
differing (some a) (some c) ls = off (a + c) ∷ ls

-- those of the entries that are marked, from place i on
abbrev pub marked_literals : Problem → Way → (ℕ → Bool) → ℕ → Table → List ℕ
marked_literals p w marks i [] = []
marked_literals p w marks i (x ∷ T) =
    cond (marks i) (differing x.first (case_in p w x) (marked_literals p w marks (suc i) T)) (marked_literals p w marks (suc i) T)

-- the children that the opening of u appends, at the places from the table's old end on
pub record Appends (p : Problem) (T : Table) (i a : ℕ) (T' : Table) : Type 0 where
  pub long : length T' ≡ length T + births (cases_at p (at T i))
  pub opened : entry_at T' i ≡ record { path = at T i; first = some a }
  pub others : (m : ℕ) → m < length T → ¬ (m ≡ i) → entry_at T' m ≡ entry_at T m
  pub children : (c j : ℕ) → c < width p (at T i) → j < arity p (at T i) c
      → entry_at T' (length T + (offset (cases_at p (at T i)) c + j)) ≡ closed_entry (child (at T i) c j)
