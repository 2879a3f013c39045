-- The values of variables, as a list.
use Rattle.std.specs.Prelude.{◌≡◌, ℕ, ◌/◌, ◌%◌, ◌<◌, Bool, true, false, cond, List, length, ◌==◌, slice_index_or, Some, Option, IsSome}
use Rattle.std.specs.List.{count_by}
use Rattle.trail.specs.declared.step.Value.{Value}
use Rattle.trail.specs.declared.step.Value.TheVariants.{False, True, Open}

abbrev pub value_at : List Value → ℕ → Value
value_at values v = slice_index_or values v False

-- the value of its variable that makes the literal true, and the one that makes it false
abbrev pub making : ℕ → Value
making l = cond (l % 2 == 0) True False

abbrev pub breaking : ℕ → Value
breaking l = cond (l % 2 == 0) False True

-- the values make the literal true
abbrev pub Holds : List Value → ℕ → Type 0
Holds values l = (l / 2 < length values) × (value_at values (l / 2) ≡ making l)

-- the values make the literal false
abbrev pub Refuted : List Value → ℕ → Type 0
Refuted values l = (l / 2 < length values) × (value_at values (l / 2) ≡ breaking l)

-- the literal is of an open variable
abbrev pub Free : List Value → ℕ → Type 0
Free values l = value_at values (l / 2) ≡ Open

pub record Valued (values : List Value) (l : ℕ) (r : Option Value) : Type 0 where
  pub off : r ≡ Some False → Refuted values l
  pub on : r ≡ Some True → Holds values l
  pub free : r ≡ Some Open → Free values l
  pub shut : Free values l → r ≡ Some Open
  pub small : l / 2 < length values → IsSome r

abbrev pub is_open : Value → Bool
is_open False = false
is_open True = false
is_open Open = true

-- how many variables are open
abbrev pub opens : List Value → ℕ
opens values = count_by is_open values
