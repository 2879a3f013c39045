-- What stands in model bytes, and what a page has been told of it. Assumes nothing.
use Rattle.std.specs.Prelude.{◌≡◌, ℕ, ◌+◌, List, ◌++◌, length, drop}
use Rattle.syntax.specs.Typing.{Sig}
use Rattle.model.specs.Partial.{Partial, OfType, written}
use Rattle.telling.specs.declared.page.Page.{Page}
use Rattle.telling.specs.Pages.{Adds}
use Rattle.telling.specs.Shown.{value_text}

-- a partial value of the type t is written at p, and the rest behind it
pub record ValueAt (sig : Sig) (bytes : List ℕ) (p t : ℕ) (v : Partial) (rest : List ℕ) : Type 0 where
  pub typed : OfType sig t v
  pub stands : drop p bytes ≡ written sig t v ++ rest

-- The value that stands at p, if one does, is told, and q is the place after it.
abbrev pub Tells : Sig → List ℕ → ℕ → ℕ → Page → Page → Type 0
Tells sig bytes p q old new =
    (t : ℕ) (v : Partial) (rest : List ℕ) → ValueAt sig bytes p t v rest → (q ≡ p + length (written sig t v)) × Adds old (value_text v) new
