-- What the code's tables of declarations stand for. Assumes nothing.
use Rattle.std.specs.Prelude.{List, map, ℕ, take}
use Rattle.syntax.specs.declared.tables.TypeList.{TypeList}
use Rattle.syntax.specs.declared.tables.Datatype.{Datatype}
use Rattle.syntax.specs.declared.tables.Callable.{Callable}
use Rattle.syntax.specs.declared.tables.Signature.{Signature}
use Rattle.syntax.specs.Typing.{Sig, Profile}

abbrev pub listed : TypeList → List ℕ
listed a = take a.count a.types

-- the constructors of a type, each by the types of its arguments
abbrev pub cases_in : Datatype → List (List ℕ)
cases_in d = map listed (take d.count d.constructors)

abbrev pub profile_in : Callable → Profile
profile_in f = record { params = listed f.params; result = f.result }

-- the declarations that the tables hold
abbrev pub declared_in : Signature → Sig
declared_in s =
    record { types = map cases_in s.types.now; functions = map profile_in s.functions.now; unknowns = s.unknowns.now }
