-- What looking at a clause tells of the ways that agree with the values.
use Rattle.std.specs.Prelude.{◌≡◌, ℕ, Bool, true, false, List}
use Rattle.chooser.specs.Ways.{lit, some, written}
use Rattle.backtrack.specs.Values.{Agrees, Opened}
use Rattle.backtrack.specs.declared.clause.Status.{Status}
use Rattle.backtrack.specs.declared.clause.Status.TheVariants.{Clash, Forced, Open, Met}

abbrev pub Told : List ℕ → List ℕ → Status → Type 0
Told values clause Clash = (p : ℕ → Bool) → Agrees p values → some (lit p) clause ≡ false
Told values clause (Forced l) = Opened values l × ((p : ℕ → Bool) → Agrees p values → some (lit p) clause ≡ true → lit p l ≡ true)
Told values clause (Open l) = Opened values l
Told values clause Met = some (lit (written values)) clause ≡ true
