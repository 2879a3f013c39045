-- What stands at a place of the table: an open part where there is no case, and else a constructor with the values of the
-- children, which stand in a row after it.
use Rattle.std.proofs.Common.{◌≡◌, ℕ, ◌+◌, ◌<◌, ◌≤◌, List, [], ◌∷◌, ◌++◌, length, get_or, Some, None, Option, refl, sym, ap, ◌∙◌, subst, arith}
use mathlib.Core.Option.{Option as Maybe, none, some}
use Rattle.syntax.specs.Typing.{Sig, arguments}
use Rattle.syntax.specs.Problems.{sig_of}
use Rattle.judging.specs.Paths.{Path, child, Decision, type_of}
use Rattle.finder.specs.Tables.{cases_at}
use Rattle.finder.specs.Ways.{decided}
use Rattle.finder.specs.Models.{Partial, open_part, built, Partials, o[], Shows, shows_open, shows_built, ShowsAll}
use Rattle.depths.proofs.Finding.{not_none}
use Rattle.finder.proofs.Tables.{same_some}
use Rattle.places.specs.Places.{at, entry_at, offset, case_in}
use Rattle.places.proofs.Places.{own_case, kid_at}
use Rattle.unknowns.specs.Listing.{row, CaseOf, CaseAs}
use Rattle.unknowns.specs.declared.table.Table.{Table as Code}
use Rattle.unknowns.specs.declared.table.Case.{Case}
use Rattle.models.specs.Models.{written_value}
use Rattle.models.specs.Walks.{CaseAt, ValueAt, bytes_of}
use Rattle.models.proofs.Existence.{ahead}
use Rattle.models.proofs.Rows.{values_left, next_value, no_values}

-- the arguments of a partial value, if it is built
abbrev pub below : Partial → Partials
below open_part = o[]
below (built c qs) = qs

none_is_some : {x : Case} {B : Type 0} → ◌≡◌ {A = Option Case} (Some x) None → B
none_is_some e = let z : ◌≡◌ {A = ℕ} 0 1 = cc in absurd (omega arith)

module _ {t : Code} {cases : List (Option Case)} {i : ℕ} (v : ValueAt t cases i) where
  abbrev sig : Sig
  sig = sig_of v.problem

  abbrev path : Path
  path = at v.table i

  abbrev ty : ℕ
  ty = type_of sig path

  abbrev δ : Decision
  δ = decided v.problem v.table v.way

  abbrev kids : ℕ → ℕ
  kids m = (row t m).kids

  abbrev own : Maybe ℕ
  own = case_in v.problem v.way (entry_at v.table i)

  own_is : δ path ≡ own
  own_is = own_case v.problem v.table v.count kids v.way v.stands.tabled v.stands.lists.placed i v.inside

  pub inside_table : i < 512
  inside_table =
      let long = v.stands.lists.long in
      let most = t.few in
      let l = v.inside in
      omega (arith, long, most, l)

  pub type_is : (row t i).ty ≡ ty
  type_is = (v.stands.lists.rows i v.inside).typed

  no_case : get_or cases i None ≡ None → v.partial ≡ open_part
  no_case n = go own v.partial (subst (CaseAs v.problem v.table kids i own) n (v.decides.each i v.inside)) own_is v.shows
    where
      go : (o : Maybe ℕ) (q : Partial) → CaseAs v.problem v.table kids i o None → δ path ≡ o → Shows sig δ path ty q → q ≡ open_part
      go none open_part a e s = refl
      go none (built c qs) a e (shows_built f s) = not_none e f
      go (some c) q a e s = absurd a

  abbrev types : Case → List ℕ
  types x = arguments sig ty x.constructor

  -- the bytes of the children from number j on, by the case x
  abbrev pub left : Case → ℕ → List ℕ
  left x j = values_left sig δ (types x) (below v.partial) j

  module _ (x : Case) (is : get_or cases i None ≡ Some x) where
    abbrev Built : Partial → Type 0
    Built q =
        (q ≡ built x.constructor (below q)) × ShowsAll sig δ (child path x.constructor) (types x) (below q)
        × CaseOf v.problem v.table kids i x.constructor x × (own ≡ some x.constructor)

    is_built : Built v.partial
    is_built = go own v.partial (subst (CaseAs v.problem v.table kids i own) is (v.decides.each i v.inside)) own_is refl v.shows
      where
        go : (o : Maybe ℕ) (q : Partial) → CaseAs v.problem v.table kids i o (Some x) → δ path ≡ o → own ≡ o → Shows sig δ path ty q → Built q
        go none q a e f s = none_is_some a
        go (some c) open_part a e f (shows_open g) = not_none g e
        go (some c) (built d qs) a e f (shows_built g s) =
            let to : d ≡ x.constructor = same_some g e ∙ sym a.0 in (
              ap (λ y. built y qs) to,
              subst (λ y. ShowsAll sig δ (child path y) (arguments sig ty y) qs) to s,
              subst (λ y. CaseOf v.problem v.table kids i y x) (sym a.0) a,
              f ∙ ap some (sym a.0),
            )

    pub case_ahead : i < x.kids
    case_ahead =
        let l = ahead v.problem t v.table v.count v.way v.stands i x.constructor v.inside is_built.3 in
        let e = is_built.2.2 in
        omega (arith, l, e)

    pub whole : bytes_of v ≡ 2 ∷ (ty ∷ (x.constructor ∷ left x 0))
    whole = ap (written_value sig ty) is_built.0

    pub nothing_left : (j : ℕ) → x.count ≤ j → left x j ≡ []
    nothing_left j l =
        let few = is_built.2.1 in
        no_values sig δ (child path x.constructor) (types x) (below v.partial) is_built.1 j (omega (arith, l, few))

    pub child_at : (j : ℕ) → j < x.count → (k : ValueAt t cases (x.kids + j)) × (left x j ≡ bytes_of k ++ left x (j + 1))
    child_at j l =
        let few = is_built.2.1 in
        let from = is_built.2.2 in
        let r = next_value sig δ (child path x.constructor) (types x) (below v.partial) is_built.1 j (omega (arith, l, few)) in
        let there =
        kid_at v.problem v.table v.count kids v.way v.stands.tabled v.stands.lists.placed i x.constructor j is_built.3 (omega (arith, l, few)) in
        let low = there.0 in
        let same : x.kids + j ≡ kids i + (offset (cases_at v.problem path) x.constructor + j) = omega (arith, from) in
        let inside : x.kids + j < length v.table = omega (arith, from, low) in
        let named : at v.table (x.kids + j) ≡ child path x.constructor j = ap (at v.table) same ∙ there.1 in (
          record {
            problem = v.problem;
            table = v.table;
            count = v.count;
            way = v.way;
            stands = v.stands;
            decides = v.decides;
            inside = inside;
            partial = r.0;
            shows = subst (λ u. Shows sig δ u (type_of sig u) r.0) (sym named) r.1;
          },
          r.2 ∙ ap (λ u. written_value sig (type_of sig u) r.0 ++ left x (j + 1)) (sym named),
        )

  -- where the walk finds no case, there is an open part
  pub is_open : CaseAt t cases i None → v.partial ≡ open_part
  is_open f = go (get_or cases i None) refl
    where
      go : (o : Option Case) → get_or cases i None ≡ o → v.partial ≡ open_part
      go None e = no_case e
      go (Some x) e = absurd (f x e inside_table (case_ahead x e))

  pub open_bytes : CaseAt t cases i None → bytes_of v ≡ 8 ∷ []
  open_bytes f = ap (written_value sig ty) (is_open f)
