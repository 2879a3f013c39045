-- The denials to a depth n, read off the rows of the code's table. Assumes nothing.
use Rattle.std.specs.Prelude.{ℕ, zero, suc, ◌+◌, ◌-◌, cond, List, [], ◌∷◌, ◌++◌, Some, None, Option, min, nat_le, nat_lt}
use Rattle.std.specs.List.{flat_map}
use Rattle.syntax.specs.Typing.{Sig, constructors}
use Rattle.syntax.specs.Least.{least_of, need_of}
use Rattle.finder.specs.Clauses.{off}
use Rattle.unknowns.specs.declared.table.Unknown.{Unknown}

-- a literal, as far as 16 bits can hold it
abbrev pub capped : ℕ → ℕ
capped l = min l 65535

-- those of the first m cases of the row x, whose variables are from a on, that reach beyond n
abbrev pub row_cases : Sig → ℕ → Unknown → ℕ → ℕ → List ℕ
row_cases sig n x a zero = []
row_cases sig n x a (suc m) =
    cond (nat_lt n (x.level + need_of sig x.ty m - 1)) (row_cases sig n x a m ++ (capped (off (a + m)) ∷ [])) (row_cases sig n x a m)

abbrev pub opened_denials : Sig → ℕ → Unknown → Option ℕ → List ℕ
opened_denials sig n x None = []
opened_denials sig n x (Some a) = cond (nat_le (x.level + least_of sig x.ty - 1) n) (row_cases sig n x a (constructors sig x.ty)) []

abbrev pub row_denials : Sig → ℕ → Unknown → List ℕ
row_denials sig n x = opened_denials sig n x x.first

abbrev pub denials : Sig → ℕ → List Unknown → List ℕ
denials sig n xs = flat_map (row_denials sig n) xs
