-- What a chooser means when it is made with a number of entries.
use Rattle.std.specs.Prelude.{◌≡◌, ℕ, ◌<◌, ◌≤◌, Bool, true, Ok, Err, Result}
use Rattle.chooser.specs.Meaning.{Meaning}
use Rattle.chooser.specs.declared.MakeFault.{MakeFault}
use Rattle.chooser.specs.declared.MakeFault.TheVariants.{TooManyEntries, NoMemory}

-- no variable is allotted, and every way is allowed
pub record Fresh (s : Meaning) (most entries : ℕ) : Type 0 where
  pub counts : s.count ≡ 0
  pub rooms : s.room ≡ most
  pub leaves : s.left ≡ entries
  pub allows : (p : ℕ → Bool) → s.ways p ≡ true
  pub few : entries ≤ 65535

abbrev pub Made : {S : Type 0} → (S → Meaning) → ℕ → ℕ → Result S MakeFault → Type 0
Made meaning most entries (Ok s) = Fresh (meaning s) most entries
Made meaning most entries (Err TooManyEntries) = 65535 < entries
Made meaning most entries (Err NoMemory) = entries ≤ 65535
