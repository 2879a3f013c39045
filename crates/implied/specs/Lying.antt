-- Clauses in a run of numbers, each as its length and then its literals.
use Rattle.std.specs.Prelude.{ℕ, ◌+◌, ◌<◌, ◌≤◌, List, length, take, drop, slice_index}

-- the literals of the clause that starts at s
abbrev pub clause_at : List ℕ → ℕ → List ℕ
clause_at numbers s = take (slice_index numbers s) (drop (s + 1) numbers)

-- each clause lies within the numbers
abbrev pub Lying : List ℕ → List ℕ → Type 0
Lying numbers starts = (c : ℕ) → c < length starts → slice_index starts c + 1 + slice_index numbers (slice_index starts c) ≤ length numbers
