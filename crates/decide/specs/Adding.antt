-- What is known while clauses of a row are left to be added.
use Rattle.std.specs.Prelude.{◌≡◌, ℕ, ◌+◌, ◌≤◌, Bool, true, ◌&&◌, List, length}
use Rattle.std.specs.List.{list_all, sum_by}
use Rattle.chooser.specs.Ways.{lit, some, allotted}
use Rattle.chooser.specs.Meaning.{Meaning}
use Rattle.rows.specs.Rows.{holds}

-- the entries that the clauses spend
abbrev pub needs : List (List ℕ) → ℕ
needs clauses = sum_by (λ c. length c + 1) clauses

pub record Adding (s t : Meaning) (row : List ℕ) (left : List (List ℕ)) : Type 0 where
  pub named : list_all (allotted s.count) left ≡ true
  pub counts : t.count ≡ s.count
  pub rooms : t.room ≡ s.room
  pub shrinks : t.left ≤ s.left
  pub spends : s.left + needs left ≤ t.left + length row
  pub allows : (p : ℕ → Bool) → (t.ways p && list_all (some (lit p)) left) ≡ (s.ways p && holds (lit p) true 0 row)
