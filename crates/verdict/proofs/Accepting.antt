-- What was accepted encodes a lawful problem.
use Rattle.std.proofs.Common.{◌≡◌, ℕ, List, subst}
use Rattle.syntax.specs.declared.tables.Datatype.{Datatype}
use Rattle.syntax.specs.declared.tables.Callable.{Callable}
use Rattle.syntax.specs.declared.tables.Span.{Span}
use Rattle.tables.specs.declared.filling.Counts.{Counts}
use Rattle.records.specs.Raw.{write, Within}
use Rattle.verdict.specs.Examined.{Accepted}
use Rattle.verdict.specs.Exact.{Encodes}
use Rattle.verdict.proofs.Exact.{came, encoded}

pub accepted_encodes : {bs : List ℕ} {types : List Datatype} {functions : List Callable} {unknowns : List ℕ} {goals : List Span} {least : List ℕ} {n : Counts}
    → (a : Accepted bs types functions unknowns goals least n) → Encodes a.problem bs
accepted_encodes {bs} a =
    let c = came bs a.problem a.is in
    let read = a.tabled.read in
    let same : a.raw ≡ c.raw = cc in
    encoded bs a.problem c.raw (subst (λ r. write r ≡ bs) same a.tabled.written) (subst Within same a.tabled.within) c.all_declared c.none_deep c.terms
