-- Reading and writing are inverse to each other. Assumes nothing.
use Rattle.std.specs.Prelude.{◌≡◌, ℕ, ◌<◌, List, Ok}
use Rattle.syntax.specs.Problems.{Each}
use Rattle.records.specs.Raw.{Raw, write, Within}
use Rattle.records.specs.Reading.{records}

abbrev pub Bytes : List ℕ → Type 0
Bytes bs = Each (λ b. b < 256) bs

-- Bytes are read as the records r exactly if they write r, and r is within every limit.
pub record ReadAs (bs : List ℕ) (r : Raw) : Type 0 where
  pub sound : records bs ≡ Ok r → (write r ≡ bs) × Within r
  pub complete : write r ≡ bs → Within r → records bs ≡ Ok r

-- so no two different records within the limits have the same bytes
pub record ReadingExact : Type 0 where
  pub exact : (bs : List ℕ) (r : Raw) → Bytes bs → ReadAs bs r
  pub unique : (r s : Raw) → Within r → Within s → write r ≡ write s → r ≡ s
