-- What a page holds. Assumes nothing.
use Rattle.std.specs.Prelude.{◌≡◌, ℕ, ◌≤◌, List, ◌++◌, length, drop}
use Rattle.telling.specs.declared.page.Page.{Page}

-- The page holds the text, in memory that held `before`: the text is counted, and written if there is room for all of it.
pub record Holds (before text : List ℕ) (p : Page) : Type 0 where
  pub counted : p.length ≡ length text
  pub long : length p.output.now ≡ length before
  pub written : length text ≤ length before → p.output.now ≡ text ++ drop (length text) before

-- the text comes behind all that the page held
abbrev pub Adds : Page → List ℕ → Page → Type 0
Adds old text new = (before held : List ℕ) → Holds before held old → Holds before (held ++ text) new
