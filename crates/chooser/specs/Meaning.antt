-- What a chooser means, when two mean the same, and what holds of every chooser of a kind.
use Rattle.std.specs.Prelude.{◌≡◌, ℕ, ◌+◌, ◌<◌, ◌≤◌, Bool}

pub record Meaning : Type 0 where
  -- the variables allotted, and those that can still be
  pub count : ℕ
  pub room : ℕ
  -- the entries left
  pub left : ℕ
  -- whether a way is allowed
  pub ways : (ℕ → Bool) → Bool

pub record Same (s t : Meaning) : Type 0 where
  pub counts : t.count ≡ s.count
  pub rooms : t.room ≡ s.room
  pub leaves : t.left ≡ s.left
  pub allows : (p : ℕ → Bool) → t.ways p ≡ s.ways p

-- whether a way is allowed rests on the allotted variables alone
abbrev pub Local : Meaning → Type 0
Local s = (p q : ℕ → Bool) → ((i : ℕ) → i < s.count → p i ≡ q i) → s.ways p ≡ s.ways q

-- `most` is the kind's greatest number of variables: those allotted and those left make it up, and each literal has 16 bits
pub record Lawful {S : Type 0} (meaning : S → Meaning) (most : ℕ) : Type 0 where
  pub local : (s : S) → Local (meaning s)
  pub whole : (s : S) → (meaning s).count + (meaning s).room ≡ most
  pub small : most ≤ 32768
