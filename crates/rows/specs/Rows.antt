-- Clauses in a row of numbers, each as its length and then its literals.
use Rattle.std.specs.Prelude.{ℕ, ◌-◌, ◌*◌, Bool, false, cond, ◌&&◌, ◌||◌, List, [], ◌∷◌, take, ◌==◌, nat_lt}

-- the row has whole clauses, over v variables; `rest` literals of the first are still to come
abbrev pub inside : ℕ → ℕ → List ℕ → Bool
inside v rest [] = rest == 0
inside v rest (x ∷ xs) = cond (rest == 0) (inside v x xs) (nat_lt x (2 * v) && inside v (rest - 1) xs)

-- each clause has a literal that passes f; `met` says whether the first had one yet
abbrev pub holds : (ℕ → Bool) → Bool → ℕ → List ℕ → Bool
holds f met rest [] = met
holds f met rest (x ∷ xs) = cond (rest == 0) (met && holds f false x xs) (holds f (met || f x) (rest - 1) xs)

-- the clauses of a row behind one of which `rest` literals are still to come; a last one that is cut short has what is there
abbrev pub clauses_behind : ℕ → List ℕ → List (List ℕ)
clauses_behind rest [] = []
clauses_behind rest (x ∷ xs) = cond (rest == 0) (take x xs ∷ clauses_behind x xs) (clauses_behind (rest - 1) xs)

-- the clauses of a row, each as its literals
abbrev pub clauses_of : List ℕ → List (List ℕ)
clauses_of row = clauses_behind 0 row
