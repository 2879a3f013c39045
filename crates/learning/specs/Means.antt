-- What a learning chooser means, and the laws of that.
use Rattle.chooser.specs.Meaning.{Meaning, Lawful}
use Rattle.rows.specs.Store.{store_means}
use Rattle.rows.proofs.Meant.{store_laws}
use Rattle.learning.specs.declared.learning.Learning.{Learning}

abbrev pub learning_means : Learning → Meaning
learning_means s = store_means s.solver.search.facts.store

pub learning_laws : Lawful learning_means 4096
learning_laws = record {
  local = λ s. store_laws.local s.solver.search.facts.store;
  whole = λ s. store_laws.whole s.solver.search.facts.store;
  small = store_laws.small;
}
