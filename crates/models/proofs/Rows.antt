-- A row of partial values from a number on: what a decision shows there, and the bytes that are left to write.
use Rattle.std.proofs.Common.{◌≡◌, ℕ, zero, suc, ◌+◌, ◌<◌, ◌≤◌, List, [], ◌∷◌, ◌++◌, length, get_or, drop, refl, sym, ap, ◌∙◌, arith, add-one, drop-cons}
use Rattle.syntax.specs.Typing.{Sig}
use Rattle.judging.specs.Paths.{Path, Decision}
use Rattle.finder.specs.Models.{Partial, Partials, o[], ◌o∷◌, Shows, ShowsAll, ◌s∷◌}
use Rattle.model.specs.Partial.{Partials as Parts, p[], ◌p∷◌, all_written, encode_from}
use Rattle.models.specs.Models.{part, parts, written_value}

-- the parts from number j on
abbrev pub later : ℕ → Parts → Parts
later zero ps = ps
later (suc j) p[] = p[]
later (suc j) (p p∷ ps) = later j ps

module _ (sig : Sig) (δ : Decision) where
  shown_at : (place : ℕ → Path) (ts : List ℕ) (qs : Partials) → ShowsAll sig δ place ts qs → (j : ℕ) → j < length ts
      → (q : Partial) × Shows sig δ (place j) (get_or ts j 0) q × (later j (parts qs) ≡ part q p∷ later (suc j) (parts qs))
  shown_at place [] qs s j l = absurd (omega (arith, l))
  shown_at place (t ∷ ts) o[] s j l = elim s [ ]
  shown_at place (t ∷ ts) (q o∷ qs) (s s∷ ss) zero l = (q, s, refl)
  shown_at place (t ∷ ts) (q o∷ qs) (s s∷ ss) (suc j) l = shown_at (λ i. place (suc i)) ts qs ss j (omega (arith, l))

  none_later : (place : ℕ → Path) (ts : List ℕ) (qs : Partials) → ShowsAll sig δ place ts qs → (j : ℕ) → length ts ≤ j → later j (parts qs) ≡ p[]
  none_later place [] o[] s zero l = refl
  none_later place [] o[] s (suc j) l = refl
  none_later place [] (q o∷ qs) s j l = elim s [ ]
  none_later place (t ∷ ts) o[] s j l = elim s [ ]
  none_later place (t ∷ ts) (q o∷ qs) s zero l = absurd (omega (arith, l))
  none_later place (t ∷ ts) (q o∷ qs) (s s∷ ss) (suc j) l = none_later (λ i. place (suc i)) ts qs ss j (omega (arith, l))

  -- the bytes of the values from number j on, and those of their records
  abbrev pub values_left : List ℕ → Partials → ℕ → List ℕ
  values_left ts qs j = all_written sig (drop j ts) (later j (parts qs))

  abbrev pub records_left : List ℕ → Partials → ℕ → List ℕ
  records_left ts qs j = encode_from sig j (drop j ts) (later j (parts qs))

  module _ (place : ℕ → Path) (ts : List ℕ) (qs : Partials) (all : ShowsAll sig δ place ts qs) (j : ℕ) where
    pub next_value : j < length ts
        → (q : Partial) × Shows sig δ (place j) (get_or ts j 0) q
        × (values_left ts qs j ≡ written_value sig (get_or ts j 0) q ++ values_left ts qs (j + 1))
    next_value l =
        let r = shown_at place ts qs all j l in (
          r.0,
          r.1,
          (λ i. all_written sig (drop-cons ts j 0 l i) (r.2 i))
              ∙ ap (λ k. written_value sig (get_or ts j 0) r.0 ++ values_left ts qs k) (sym (add-one j)),
        )

    pub next_record : j < length ts
        → (q : Partial) × Shows sig δ (place j) (get_or ts j 0) q
        × (records_left ts qs j ≡ 0x4D ∷ (0x44 ∷ (j ∷ (written_value sig (get_or ts j 0) q ++ records_left ts qs (j + 1)))))
    next_record l =
        let r = shown_at place ts qs all j l in (
          r.0,
          r.1,
          (λ i. encode_from sig j (drop-cons ts j 0 l i) (r.2 i))
              ∙ ap (λ k. 0x4D ∷ (0x44 ∷ (j ∷ (written_value sig (get_or ts j 0) r.0 ++ encode_from sig (j + 1) (drop k ts) (later k (parts qs)))))) (sym (add-one j)),
        )

    pub no_values : length ts ≤ j → values_left ts qs j ≡ []
    no_values l = ap (all_written sig (drop j ts)) (none_later place ts qs all j l)

    pub no_records : length ts ≤ j → records_left ts qs j ≡ []
    no_records l = ap (encode_from sig j (drop j ts)) (none_later place ts qs all j l)
