-- Where the arguments of a value start, one at a time.
use Rattle.std.proofs.Common.{◌≡◌, ℕ, ◌≤◌, List, ◌++◌, length, drop}
use Rattle.syntax.specs.Typing.{Sig}
use Rattle.model.specs.Places.{starts_from}

-- the starts so far, of values that stand from `place` on, and the next
pub record Starting (sig : Sig) (bs types starts : List ℕ) (place index next : ℕ) : Type 0 where
  pub long : length starts ≡ index
  pub low : next ≤ length bs
  pub whole : starts_from sig bs types place ≡ starts ++ starts_from sig bs (drop index types) next
