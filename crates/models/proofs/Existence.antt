-- A way makes a model of a table that stands: below each unknown is an open part, or a constructor over what is below its children,
-- which stand after it.
use Rattle.std.proofs.Common.{◌≡◌, ℕ, zero, suc, ◌+◌, ◌<◌, ◌≤◌, List, [], ◌∷◌, length, get_or, Some, None, Option, refl, sym, ap, ◌∙◌, subst, arith}
use mathlib.Core.Option.{Option as Maybe, none, some, none-ne-some}
use Rattle.syntax.specs.Typing.{Sig, arguments}
use Rattle.syntax.specs.Problems.{Problem, sig_of}
use Rattle.judging.specs.Paths.{Path, root, child, Decision, type_of}
use Rattle.finder.specs.Tables.{Table, cases_at, width}
use Rattle.finder.specs.Ways.{Way, case_of, decided}
use Rattle.finder.specs.Models.{Partial, open_part, built, Partials, o[], ◌o∷◌, Shows, shows_open, shows_built, ShowsAll, s[], ◌s∷◌, ModelOf}
use Rattle.places.specs.Places.{at, entry_at, offset, case_in}
use Rattle.places.proofs.Places.{own_case, kid_at}
use Rattle.unknowns.specs.Listing.{maybe, row, Stands}
use Rattle.unknowns.specs.declared.table.Table.{Table as Code}

gather : (sig : Sig) (δ : Decision) (place : ℕ → Path) (ts : List ℕ)
    → ((j : ℕ) → j < length ts → (q : Partial) × Shows sig δ (place j) (get_or ts j 0) q) → (qs : Partials) × ShowsAll sig δ place ts qs
gather sig δ place [] f = (o[], s[])
gather sig δ place (t ∷ ts) f =
    let x = f 0 (omega arith) in
    let r = gather sig δ (λ j. place (suc j)) ts (λ j l. f (suc j) (omega (arith, l))) in
    (x.0 o∷ r.0, x.1 s∷ r.1)

module _ (p : Problem) (t : Code) (T : Table) (count : ℕ) (w : Way) (stands : Stands p t T count) where
  abbrev kids : ℕ → ℕ
  kids m = (row t m).kids

  abbrev sig : Sig
  sig = sig_of p

  abbrev δ : Decision
  δ = decided p T w

  abbrev own : ℕ → Maybe ℕ
  own i = case_in p w (entry_at T i)

  -- only what is opened is decided, and the children of that stand after it
  pub ahead : (i c : ℕ) → i < length T → own i ≡ some c → i < kids i
  ahead i c l e = go (row t i).first refl
    where
      go : (f : Option ℕ) → (row t i).first ≡ f → i < kids i
      go None r =
          absurd (none-ne-some c (ap (case_of w (width p (entry_at T i).path)) (ap maybe (sym r) ∙ (stands.lists.rows i l).opened) ∙ e))
      go (Some a) r = (stands.lists.rows i l).ahead a r

  abbrev Stood : Path → Type 0
  Stood u = (q : Partial) × Shows sig δ u (type_of sig u) q

  stood : (fuel i : ℕ) → length T ≤ i + fuel → i < length T → Stood (at T i)
  stood zero i far l = absurd (omega (arith, far, l))
  stood (suc fuel) i far l = go (own i) refl (own_case p T count kids w stands.tabled stands.lists.placed i l) (stood fuel)
    where
      go : (o : Maybe ℕ) → own i ≡ o → δ (at T i) ≡ own i → ((m : ℕ) → length T ≤ m + fuel → m < length T → Stood (at T m)) → Stood (at T i)
      go none e is ih = (open_part, shows_open (is ∙ e))
      go (some c) e is ih =
          let qs = gather sig δ (child (at T i) c) (arguments sig (type_of sig (at T i)) c)
          (λ j m.
          let there = kid_at p T count kids w stands.tabled stands.lists.placed i c j e m in
          let low = ahead i c l e in
          subst Stood there.1 (ih (kids i + (offset (cases_at p (at T i)) c + j)) (omega (arith, far, low)) there.0)) in
          (built c qs.0, shows_built (is ∙ e) qs.1)

  pub model_exists : (qs : Partials) × ModelOf p δ qs
  model_exists =
      gather sig δ root p.unknowns
      (λ k l. let there = stands.lists.placed.roots_first k l in subst Stood there.1 (stood (length T) k (omega arith) there.0))
