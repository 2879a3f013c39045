-- The clauses of an opening, and what variables and clauses make of a chooser. Literal 2i says that variable i is 1, and
-- 2i + 1 that it is 0. Assumes nothing.
use Rattle.std.specs.Prelude.{◌≡◌, ℕ, zero, suc, ◌+◌, ◌-◌, ◌*◌, ◌/◌, ◌≤◌, Bool, true, ◌&&◌, List, [], ◌∷◌, ◌++◌, length}
use Rattle.chooser.specs.Ways.{lit, some as any}
use Rattle.chooser.specs.Meaning.{Meaning, Same}
use Rattle.chooser.specs.Steps.{Grown, Added}
use Rattle.finder.specs.Ways.{Way}

abbrev pub on : ℕ → ℕ
on v = 2 * v

abbrev pub off : ℕ → ℕ
off v = 2 * v + 1

abbrev pub all_met : Way → List (List ℕ) → Bool
all_met w [] = true
all_met w (c ∷ cs) = any (lit w) c && all_met w cs

-- one of the m variables from a on is 1
abbrev pub some_case : ℕ → ℕ → List ℕ
some_case a zero = []
some_case a (suc m) = some_case a m ++ (on (a + m) ∷ [])

-- variable a + c is 1 with none of the first m, and no two of the first m are
abbrev pub not_with : ℕ → ℕ → ℕ → List (List ℕ)
not_with a c zero = []
not_with a c (suc m) = not_with a c m ++ ((off (a + m) ∷ (off (a + c) ∷ [])) ∷ [])

abbrev pub not_two : ℕ → ℕ → List (List ℕ)
not_two a zero = []
not_two a (suc m) = not_two a m ++ not_with a m m

abbrev pub opening_clauses : ℕ → ℕ → List (List ℕ)
opening_clauses a m = some_case a m ∷ not_two a m

-- the entries that clauses take at most, and those that an opening needs
abbrev pub entries : List (List ℕ) → ℕ
entries [] = 0
entries (c ∷ cs) = length c + 1 + entries cs

abbrev pub opening_entries : ℕ → ℕ
opening_entries m = (m + 1) + 3 * (m * (m - 1)) / 2

abbrev pub OpeningTakes : Type 0
OpeningTakes = (a m : ℕ) → entries (opening_clauses a m) ≡ opening_entries m

-- The chooser has m more variables and just the ways that meet the clauses, and has spent no more entries than they take.
pub record Extended (M M' : Meaning) (m : ℕ) (cs : List (List ℕ)) : Type 0 where
  pub counts : M'.count ≡ M.count + m
  pub rooms : M'.room + m ≡ M.room
  pub shrinks : M'.left ≤ M.left
  pub spends : M.left ≤ M'.left + entries cs
  pub allows : (w : Way) → M'.ways w ≡ (M.ways w && all_met w cs)

-- So do the calls of a chooser, and one after another.
pub record Extending : Type 0 where
  pub by_asking : (M M' : Meaning) → Same M M' → Extended M M' 0 []
  pub by_variable : (M M' : Meaning) (v : ℕ) → Grown M M' v → Extended M M' 1 []
  pub by_clause : (M M' : Meaning) (c : List ℕ) → Added M M' c → Extended M M' 0 (c ∷ [])
  pub one_by_one : (M M₁ M₂ : Meaning) (m m' : ℕ) (cs cs' : List (List ℕ)) → Extended M M₁ m cs → Extended M₁ M₂ m' cs'
      → Extended M M₂ (m + m') (cs ++ cs')
