-- What reading a text promises.
use Rattle.std.specs.Prelude.{◌≡◌, ℕ, List, Ok, Err, vec_items, Result}
use Rattle.dimacs.specs.declared.fault.Kind.{Kind}
use Rattle.dimacs.specs.declared.fault.ReadError.{ReadError}
use Rattle.dimacs.specs.declared.fault.ReadError.TheVariants.{NoMemory, Bad}
use Rattle.dimacs.specs.declared.formula.Formula.{Formula}
use Rattle.dimacs.specs.declared.reader.Reader.{Reader}
use Rattle.dimacs.specs.declared.step.State.{State}
use Rattle.dimacs.specs.declared.step.Event.{Event}
use Rattle.dimacs.specs.Feed.{Reading, Content, act, fed, closed, fault_at, content}

abbrev pub reading : Reader → Reading
reading s = record { state = s.state; clause = vec_items s.clause; row = vec_items s.row }

-- whatever state the byte leads to
abbrev pub Put : {U : Type 0} → Reading → Event → Reading → Result U Kind → Type 0
Put r e q (Ok u) = (s : State) → act r s e ≡ Ok (record { state = s; clause = q.clause; row = q.row })
Put r e q (Err k) = (s : State) → act r s e ≡ Err k

abbrev pub Fed : {U : Type 0} → Reading → ℕ → Reading → Result U Kind → Type 0
Fed r b q (Ok u) = fed r b ≡ Ok q
Fed r b q (Err k) = fed r b ≡ Err k

abbrev pub formula : Formula → Content
formula f = record { variables = f.variables; row = vec_items f.row }

abbrev pub Finished : Reading → Result Formula Kind → Type 0
Finished r (Ok f) = closed r ≡ Ok (formula f)
Finished r (Err k) = closed r ≡ Err k

abbrev pub bad_at : List ℕ → ℕ → Kind → ReadError
bad_at text at k = Bad (fault_at text at k)

abbrev pub Reads : List ℕ → Result Formula ReadError → Type 0
Reads text (Ok f) = content text ≡ Ok (formula f)
Reads text (Err NoMemory) = Unit {0}
Reads text (Err (Bad e)) = content text ≡ Err e
