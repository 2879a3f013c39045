-- What it means that no type number is refused. Assumes nothing.
use Rattle.std.specs.Prelude.{◌≡◌, None}
use Rattle.syntax.specs.Typing.{Declared}
use Rattle.syntax.specs.Problems.{Each}
use Rattle.records.specs.Raw.{Raw}
use Rattle.tables.specs.Tabled.{declared_by}
use Rattle.declarations.specs.Numbers.{undeclared}

-- every type number outside terms names a type
pub record AllDeclared (r : Raw) : Type 0 where
  pub of_types : Each (Each (Each (Declared (declared_by r)))) r.types
  pub of_functions : Each (λ f. Each (Declared (declared_by r)) f.profile.params × Declared (declared_by r) f.profile.result) r.functions
  pub of_unknowns : Each (Declared (declared_by r)) r.unknowns

-- no place is named exactly if every type number names a type
pub record NoneUndeclared (r : Raw) : Type 0 where
  pub sound : undeclared r ≡ None → AllDeclared r
  pub complete : AllDeclared r → undeclared r ≡ None

abbrev pub UndeclaredIsExact : Type 0
UndeclaredIsExact = (r : Raw) → NoneUndeclared r
