-- What a chooser without variables and entries means, and the laws of that.
use Rattle.std.specs.Prelude.{true}
use Rattle.std.proofs.Common.{refl}
use Rattle.std.proofs.Math.Nat.{le_of_sub-eq-zero}
use Rattle.chooser.specs.Meaning.{Meaning, Lawful}
use Rattle.sessiontests.specs.declared.bare.Bare.{Bare}

abbrev pub bare_means : Bare → Meaning
bare_means s = record { count = 0; room = 0; left = 0; ways = λ w. true }

pub bare_laws : Lawful bare_means 0
bare_laws = record { local = λ s p q same. refl; whole = λ s. refl; small = le_of_sub-eq-zero refl }
