-- What a plain chooser means, and the laws of that.
use Rattle.chooser.specs.Meaning.{Meaning, Lawful}
use Rattle.rows.specs.Store.{store_means}
use Rattle.rows.proofs.Meant.{store_laws}
use Rattle.plain.specs.declared.plain.Plain.{Plain}

abbrev pub plain_means : Plain → Meaning
plain_means s = store_means s.clauses

pub plain_laws : Lawful plain_means 4096
plain_laws = record { local = λ s. store_laws.local s.clauses; whole = λ s. store_laws.whole s.clauses; small = store_laws.small }
