-- A clause added to the row leaves fewer ways.
use Rattle.std.proofs.Common.{◌≡◌, ℕ, Bool, true, false, cond, List, ◌∷◌, ◌++◌, length, sym, ap, ◌∙◌}
use Rattle.std.proofs.lemmas.Bool.{and_parts}
use Rattle.chooser.specs.Ways.{lit, some}
use Rattle.rows.specs.Rows.{inside}
use Rattle.rows.proofs.Rows.{holds_append}
use Rattle.implied.specs.Implied.{allowed}

allowed_before : (row row' clause : List ℕ) (v : ℕ) → inside v 0 row ≡ true → row' ≡ row ++ (length clause ∷ clause) → (p : ℕ → Bool) → allowed row' p ≡ true → allowed row p ≡ true
allowed_before row row' clause v whole rows p x = (and_parts (allowed row p) (some (lit p) clause) (sym (holds_append (lit p) v clause row true 0 whole) ∙ sym (ap (λ r. allowed r p) rows) ∙ x)).0

-- where the row is as it was, or has one clause more, no way is allowed that was not
pub allowed_fewer : (row row' clause : List ℕ) (v : ℕ) (added : Bool) → inside v 0 row ≡ true → row' ≡ cond added (row ++ (length clause ∷ clause)) row → (p : ℕ → Bool) → allowed row' p ≡ true → allowed row p ≡ true
allowed_fewer row row' clause v true whole rows p x = allowed_before row row' clause v whole rows p x
allowed_fewer row row' clause v false whole rows p x = ap (λ r. allowed r p) (sym rows) ∙ x
