-- What the places of the working memory stand for. R says which term stands at a place of the problem. Assumes nothing.
use Rattle.std.specs.Prelude.{◌≡◌, ℕ, zero, suc, ◌+◌, ◌<◌, ◌≤◌, List, get_or, slice_index_or, Some, None, Option}
use Rattle.syntax.specs.Terms.{Term}
use Rattle.judging.specs.Held.{Held, hold, free, Helds, h[], ◌h∷◌, missing}
use Rattle.held.specs.declared.places.Held.{Held as Code}
use Rattle.held.specs.declared.places.Held.TheVariants.{Missing, Term as At, Unknown}
use Rattle.held.specs.declared.places.Place.{Place}

abbrev pub no_place : Place
no_place = record { held = Missing; next = None; size = 0 }

-- the place that a link goes to
abbrev pub place_at : List Place → Option ℕ → Place
place_at m None = no_place
place_at m (Some i) = slice_index_or m i no_place

abbrev pub hlength : {U : Type 0} → Helds U → ℕ
hlength h[] = 0
hlength (h h∷ hs) = suc (hlength hs)

-- the link that is reached by going k links down
abbrev pub down : List Place → Option ℕ → ℕ → Option ℕ
down m l zero = l
down m l (suc k) = (place_at m (down m l k)).next

-- what represents a held term, given what represents its environment; and what represents an unknown
abbrev pub TermAs : (ℕ → Term → Type 0) → (Option ℕ → Type 0) → Term → Helds ℕ → Code → Type 0
TermAs R E t ρ Missing = t ≡ missing
TermAs R E t ρ (At p e) = R p t × E e
TermAs R E t ρ (Unknown u) = ⊥

abbrev pub UnknownAs : ℕ → Code → Type 0
UnknownAs u Missing = ⊥
UnknownAs u (At p e) = ⊥
UnknownAs u (Unknown v) = v ≡ u

-- Stands: x represents a held term, with the places below top.
-- Binds: the links from l down to `base`, with n bindings there, represent an environment, whose last is at l.
abbrev mutual
  pub Stands : (ℕ → Term → Type 0) → List Place → ℕ → Code → Held ℕ → Type 0
  Stands R m top x (hold t ρ) = TermAs R (λ e. Binds R m top 0 None e ρ) t ρ x
  Stands R m top x (free u) = UnknownAs u x

  pub Binds : (ℕ → Term → Type 0) → List Place → ℕ → ℕ → Option ℕ → Option ℕ → Helds ℕ → Type 0
  Binds R m top n base l h[] = l ≡ base
  Binds R m top n base l (h h∷ ρ) =
      (k : ℕ) × (n ≤ k) × (k < top) × ((place_at m (Some k)).next ≡ base) × ((place_at m (Some k)).size ≡ n + 1)
      × Stands R m top (place_at m (Some k)).held h × Binds R m top (n + 1) (Some k) l ρ

-- the link l represents an environment
abbrev pub Env : (ℕ → Term → Type 0) → List Place → ℕ → Option ℕ → Helds ℕ → Type 0
Env R m top l ρ = Binds R m top 0 None l ρ

-- held terms, one after another from the place i on
abbrev pub Row : (ℕ → Term → Type 0) → List Place → ℕ → ℕ → Helds ℕ → Type 0
Row R m top i h[] = Unit {0}
Row R m top i (h h∷ hs) = (i < top) × Stands R m top (get_or m i no_place).held h × Row R m top (i + 1) hs

-- the places below top are left as they were
abbrev pub Same : List Place → List Place → ℕ → Type 0
Same before after top = (i : ℕ) → i < top → slice_index_or after i no_place ≡ slice_index_or before i no_place
