-- What the tables hold, read through what they stand for. Assumes nothing.
use Rattle.std.proofs.Common.{[]}
use Rattle.syntax.specs.declared.tables.TypeList.{TypeList}
use Rattle.syntax.specs.declared.tables.Datatype.{Datatype}
use Rattle.syntax.specs.declared.tables.Callable.{Callable}

-- what a read past the end of a table would give
abbrev pub no_list : TypeList
no_list = record { count = 0; types = [] }

abbrev pub no_datatype : Datatype
no_datatype = record { at = 0; count = 0; constructors = [] }

abbrev pub no_callable : Callable
no_callable = record { at = 0; params = no_list; result = 0; body = record { start = 0; len = 0 } }
