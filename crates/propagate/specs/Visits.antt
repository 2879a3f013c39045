-- What visits of clauses do to a search: its trail only grows, and where a clause is false no allowed way is along it.
use Rattle.std.specs.Prelude.{◌≡◌, ℕ, Option, IsSome}
use Rattle.implied.specs.Implied.{allowed}
use Rattle.trail.specs.Trails.{Dead, Grew}
use Rattle.trail.specs.declared.search.Search.{Search}
use Rattle.propagate.specs.declared.visit.Visit.{Visit}
use Rattle.propagate.specs.declared.visit.Visit.TheVariants.{Stays, Moves, Clashes}

pub record Onward (s s' : Search) : Type 0 where
  pub facts : s'.facts ≡ s.facts
  pub grew : Grew s.trail.steps.items s'.trail.steps.items

abbrev pub Visited : Search → Search → Visit → Type 0
Visited s s' Stays = Onward s s'
Visited s s' (Moves literal from) = Onward s s'
Visited s s' Clashes = Onward s s' × Dead (allowed s'.facts.store.row.items) s'.trail.steps.items

-- r is a clause that is false, if there is one
pub record Stopped (s s' : Search) (r : Option ℕ) : Type 0 where
  pub onward : Onward s s'
  pub dead : IsSome r → Dead (allowed s'.facts.store.row.items) s'.trail.steps.items
