-- Texts that spell a formula: each number by its digits, leading zeros allowed. Such a text is read as the formula that it spells.
use Rattle.std.specs.Prelude.{◌≡◌, ℕ, ◌+◌, ◌-◌, ◌*◌, ◌≤◌, Bool, true, cond, ◌&&◌, List, [], ◌∷◌, ◌++◌, length, Ok}
use Rattle.dimacs.specs.Step.{digit, literal}
use Rattle.dimacs.specs.Feed.{content}

abbrev pub digits_only : List ℕ → Bool
digits_only [] = true
digits_only (d ∷ ds) = digit d && digits_only ds

-- the number that the digits make behind n
abbrev pub value_on : ℕ → List ℕ → ℕ
value_on n [] = n
value_on n (d ∷ ds) = value_on (n * 10 + (d - 48)) ds

-- a number: its first digit, and the others
pub record Numeral : Type 0 where
  pub first : ℕ
  pub others : List ℕ

abbrev pub numeral_bytes : Numeral → List ℕ
numeral_bytes n = n.first ∷ n.others

abbrev pub value : Numeral → ℕ
value n = value_on (n.first - 48) n.others

pub record Proper (n : Numeral) : Type 0 where
  pub digits : digits_only (numeral_bytes n) ≡ true
  pub small : value n ≤ 100000

-- a literal: perhaps a minus, and a number
pub record Word : Type 0 where
  pub negative : Bool
  pub numeral : Numeral

abbrev pub word_bytes : Word → List ℕ
word_bytes w = cond w.negative (45 ∷ numeral_bytes w.numeral) (numeral_bytes w.numeral)

-- the words of a clause with a blank behind each, and then 0 and the line's end
abbrev pub clause_bytes : List Word → List ℕ
clause_bytes [] = 48 ∷ 10 ∷ []
clause_bytes (w ∷ ws) = word_bytes w ++ (32 ∷ clause_bytes ws)

abbrev pub clauses_bytes : List (List Word) → List ℕ
clauses_bytes [] = []
clauses_bytes (c ∷ cs) = clause_bytes c ++ clauses_bytes cs

-- `p cnf`, the two numbers, and the clauses, each on a line
abbrev pub text_bytes : Numeral → Numeral → List (List Word) → List ℕ
text_bytes variables clauses cs =
    112 ∷ 32 ∷ 99 ∷ 110 ∷ 102 ∷ 32 ∷ (numeral_bytes variables ++ (32 ∷ (numeral_bytes clauses ++ (10 ∷ clauses_bytes cs))))

-- the literals of a clause, and the row of the clauses
abbrev pub clause_of : List Word → List ℕ
clause_of [] = []
clause_of (w ∷ ws) = literal (value w.numeral) w.negative ∷ clause_of ws

abbrev pub row_of : List (List Word) → List ℕ
row_of [] = []
row_of (c ∷ cs) = length (clause_of c) ∷ (clause_of c ++ row_of cs)

-- each word names a variable of the header
pub record Named (v : ℕ) (w : Word) : Type 0 where
  pub proper : Proper w.numeral
  pub from_one : 1 ≤ value w.numeral
  pub to_last : value w.numeral ≤ v

abbrev pub AllNamed : ℕ → List Word → Type 0
AllNamed v [] = Unit {0}
AllNamed v (w ∷ ws) = Named v w × AllNamed v ws

abbrev pub EveryNamed : ℕ → List (List Word) → Type 0
EveryNamed v [] = Unit {0}
EveryNamed v (c ∷ cs) = AllNamed v c × EveryNamed v cs

abbrev pub ReadAsSpelled : Type 0
ReadAsSpelled = (variables clauses : Numeral) (cs : List (List Word)) → Proper variables → Proper clauses
    → value variables ≤ 32768 → value clauses ≡ length cs → EveryNamed (value variables) cs → length (row_of cs) ≤ 65535
    → content (text_bytes variables clauses cs) ≡ Ok (record { variables = value variables; row = row_of cs })
