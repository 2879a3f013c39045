-- What the rows of the code's table decide is what the entries of the table that it lists decide.
use Rattle.std.proofs.Common.{◌≡◌, ℕ, zero, suc, ◌+◌, ◌<◌, ◌≤◌, Bool, true, false, ◌⊎◌, inl, inr, eqb, List, [], ◌∷◌, length, get_or, set, take, Some, None, Ok, Err, Option, Result, refl, sym, ap, ◌∙◌, subst, arith}
use mathlib.Core.Option.{Option as Maybe, some}
use Rattle.std.proofs.lemmas.Bool.{cases_eq, and_parts, and_from, eq-eqb, ne_eqb, false≢true}
use Rattle.std.proofs.lemmas.List.{get_or-take, get_or-set_same, get_or-set_other}
use Rattle.std.specs.Result.{is_ok}
use Rattle.chooser.specs.Ways.{written}
use Rattle.syntax.specs.Typing.{cases_of}
use Rattle.syntax.specs.Problems.{Problem, sig_of}
use Rattle.judging.specs.Paths.{Path}
use Rattle.finder.specs.Tables.{cases_at, width, Table, opening}
use Rattle.finder.specs.Ways.{Way, how_many, one_of, decides_all, case_of}
use Rattle.finder.proofs.Tables.{opening_entry}
use Rattle.finder.proofs.Ways.{case_at_says}
use Rattle.places.specs.Places.{at, entry_at, case_in}
use Rattle.places.proofs.Openings.{at_entry, entry_in}
use Rattle.unknowns.specs.Listing.{maybe, blank, row, Stands, CaseAs, DecidesAs}
use Rattle.unknowns.specs.declared.table.Unknown.{Unknown}
use Rattle.unknowns.specs.declared.table.Table.{Table as Code}
use Rattle.unknowns.specs.declared.table.Case.{Case}
use Rattle.cases.specs.declared.decide.NotOneCase.{NotOneCase}
use Rattle.cases.specs.Decided.{OnlyCase, CaseWith, row_in, RowDecided, RowsDecided, DecidedBy}
use Rattle.cases.proofs.Offsets.{begins_low}

-- one more row's case is put down
pub put_row : (P : ℕ → Option Case → Type 0) (cases : List (Option Case)) (place : ℕ) (o : Option Case) → place < length cases
    → ((i : ℕ) → i < place → P i (get_or cases i None)) → P place o → (i : ℕ) → i < place + 1 → P i (get_or (set cases place o) i None)
put_row P cases place o inside before here i l = go (cases_eq i place)
  where
    go : (i ≡ place) ⊎ (¬ (i ≡ place)) → P i (get_or (set cases place o) i None)
    go (inl e) =
        subst (λ j. P j (get_or (set cases place o) j None)) (sym e)
        (subst (P place) (sym (get_or-set_same cases place o None inside)) here)
    go (inr n) = subst (P i) (sym (get_or-set_other cases place i o None n)) (before i (omega (arith, l, n)))

-- whether the entry at place i has exactly one case, if it is opened
abbrev pub one_at : Problem → Way → Table → ℕ → Bool
one_at p w T i = one_of p w (entry_at T i).path (entry_at T i).first

pub all_one : (p : Problem) (w : Way) (T : Table) → ((i : ℕ) → i < length T → one_at p w T i ≡ true) → decides_all p w T ≡ true
all_one p w [] f = refl
all_one p w (x ∷ T) f = and_from _ _ (f 0 (omega arith)) (all_one p w T (λ i l. f (suc i) (omega (arith, l))))

pub each_one : (p : Problem) (w : Way) (T : Table) (i : ℕ) → decides_all p w T ≡ true → i < length T → one_at p w T i ≡ true
each_one p w [] i e l = absurd (omega (arith, l))
each_one p w (x ∷ T) zero e l = (and_parts _ _ e).0
each_one p w (x ∷ T) (suc i) e l = each_one p w T i (and_parts _ _ e).1 (omega (arith, l))

pub not_all : (p : Problem) (w : Way) (T : Table) (i : ℕ) → i < length T → one_at p w T i ≡ false → decides_all p w T ≡ false
not_all p w T i l e = go (decides_all p w T) refl
  where
    go : (b : Bool) → decides_all p w T ≡ b → decides_all p w T ≡ false
    go true f = absurd (false≢true (sym e ∙ each_one p w T i f l))
    go false f = f

module _ (p : Problem) (t : Code) (T : Table) (count : ℕ) (w : Way) (stands : Stands p t T count) where
  abbrev kids : ℕ → ℕ
  kids m = (row t m).kids

  pub few : length T ≤ 512
  few =
      let long = stands.lists.long in
      let most = t.few in
      omega (arith, long, most)

  -- the constructors of the type that a row names
  same_cases : (i : ℕ) → i < length T → cases_of (sig_of p) (row t i).ty ≡ cases_at p (at T i)
  same_cases i l = ap (cases_of (sig_of p)) (stands.lists.rows i l).typed

  opened_as : (i a : ℕ) → i < length T → (row t i).first ≡ Some a → (entry_at T i).first ≡ some a
  opened_as i a l e = sym (stands.lists.rows i l).opened ∙ ap maybe e

  pub closed_row : (i : ℕ) → i < length T → (row t i).first ≡ None
      → (one_at p w T i ≡ true) × CaseAs p T kids i (case_in p w (entry_at T i)) None
  closed_row i l e =
      subst
      (λ (f : Maybe ℕ). (one_of p w (entry_at T i).path f ≡ true) × CaseAs p T kids i (case_of w (width p (entry_at T i).path) f) None)
      (sym (sym (stands.lists.rows i l).opened ∙ ap maybe e)) (refl, refl)

  abbrev Decides : ℕ → ℕ → Path → Case → Type 0
  Decides i a u x = (one_of p w u (some a) ≡ true) × CaseAs p T kids i (case_of w (width p u) (some a)) (Some x)

  one_case : (i a : ℕ) (x : Case) → i < length T → (entry_at T i).first ≡ some a → OnlyCase w a (width p (at T i)) (Some x.constructor)
      → CaseWith (cases_at p (at T i)) (kids i) x.constructor x → Decides i a (at T i) x
  one_case i a x l f only is =
      let opens : opening T (at T i) ≡ some a =
      ap (opening T) (at_entry T i) ∙ opening_entry T (entry_at T i) stands.tabled.distinct (entry_in T i l) ∙ f in
      let inside = (case_at_says w a (width p (at T i)) x.constructor only.1).0 in
      let low = begins_low p T kids i a x.constructor stands.lists.placed few l opens inside is.low in
      let kept = is.kids_at in (
        eq-eqb (how_many w a (width p (at T i))) 1 only.0,
        subst (λ (o : Maybe ℕ). CaseAs p T kids i o (Some x)) (sym only.1) (refl, is.count, omega (arith, low, kept)),
      )

  pub opened_row : (i a : ℕ) (x : Case) → i < length T → (row t i).first ≡ Some a
      → OnlyCase w a (length (cases_of (sig_of p) (row t i).ty)) (Some x.constructor)
      → CaseWith (cases_of (sig_of p) (row t i).ty) (kids i) x.constructor x
      → (one_at p w T i ≡ true) × CaseAs p T kids i (case_in p w (entry_at T i)) (Some x)
  opened_row i a x l e only is =
      let f = opened_as i a l e in
      let here : Decides i a (at T i) x =
      one_case i a x l f
      (subst (λ (cs : List (List ℕ)). OnlyCase w a (length cs) (Some x.constructor)) (same_cases i l) only)
      (subst (λ (cs : List (List ℕ)). CaseWith cs (kids i) x.constructor x) (same_cases i l) is) in
      subst
      (λ (o : Maybe ℕ). (one_of p w (entry_at T i).path o ≡ true) × CaseAs p T kids i (case_of w (width p (entry_at T i).path) o) (Some x))
      (sym f) (subst (λ (u : Path). Decides i a u x) (at_entry T i) here)

  pub row_decided : (i : ℕ) (o : Option Case) → i < length T → RowDecided (cases_of (sig_of p) (row t i).ty) w (row t i) (Ok o)
      → (one_at p w T i ≡ true) × CaseAs p T kids i (case_in p w (entry_at T i)) o
  row_decided i None l r = closed_row i l r
  row_decided i (Some x) l r = opened_row i r.0 x l r.1 r.2 r.3

  pub row_undecided : (i : ℕ) (e : NotOneCase) → i < length T → RowDecided (cases_of (sig_of p) (row t i).ty) w (row t i) (Err e)
      → one_at p w T i ≡ false
  row_undecided i e l r =
      ap (one_of p w (entry_at T i).path) (opened_as i r.0 l r.1)
      ∙ ap (λ (cs : List (List ℕ)). eqb (how_many w r.0 (length cs)) 1)
      (sym (same_cases i l ∙ ap (cases_at p) (at_entry T i)))
      ∙ ne_eqb (how_many w r.0 (length (cases_of (sig_of p) (row t i).ty))) 1 r.2

  -- The rows of the table, as far as it has unknowns.
  module _ (rows : List Unknown) (are : rows ≡ take t.len t.rows) (long : length rows ≡ t.len) (cases : List (Option Case)) where
    row_of_table : (i : ℕ) → i < length T → row_in rows i ≡ row t i
    row_of_table i l =
        let size = stands.lists.long in
        ap (λ (xs : List Unknown). row_in xs i) are ∙ get_or-take t.len t.rows i blank (omega (arith, l, size))

    abbrev Here : ℕ → Result (Option Case) NotOneCase → Unknown → Type 0
    Here i r x = RowDecided (cases_of (sig_of p) x.ty) w x r

    pub rows_decided : {U : Type 0} (u : U) → RowsDecided p rows w cases (Ok u) → (decides_all p w T ≡ true) × DecidesAs p t T w cases
    rows_decided u all = (all_one p w T (λ i l. (each i l).0), record { each = λ i l. (each i l).1 })
      where
        each : (i : ℕ) → i < length T → (one_at p w T i ≡ true) × CaseAs p T kids i (case_in p w (entry_at T i)) (get_or cases i None)
        each i l =
            let size = stands.lists.long in
            row_decided i (get_or cases i None) l
            (subst (Here i (Ok (get_or cases i None))) (row_of_table i l) (all i (omega (arith, l, long, size))))

    pub rows_undecided : (U : Type 0) (e : NotOneCase) → RowsDecided {U = U} p rows w cases (Err e) → decides_all p w T ≡ false
    rows_undecided U e some_row =
        let size = stands.lists.long in
        let inside = some_row.1 in
        let l : some_row.0 < length T = omega (arith, inside, long, size) in
        not_all p w T some_row.0 l
        (row_undecided some_row.0 e l (subst (Here some_row.0 (Err e)) (row_of_table some_row.0 l) some_row.2))

-- whether all rows are decided is whether the way decides each opened unknown of a table that stands
pub table_decided : {U : Type 0} (p : Problem) (t : Code) (way : List ℕ) (rows : List Unknown) (cases : List (Option Case)) (r : Result U NotOneCase)
    (b : Bool) → rows ≡ take t.len t.rows → length rows ≡ t.len → RowsDecided p rows (written way) cases r → b ≡ is_ok r → DecidedBy p t way cases b
table_decided p t way rows cases (Ok u) b are long all is =
    record {
      answers = λ T count stands. is ∙ sym (rows_decided p t T count (written way) stands rows are long cases u all).0;
      cases_are = λ T count stands e. (rows_decided p t T count (written way) stands rows are long cases u all).1;
    }
table_decided {U} p t way rows cases (Err e) b are long all is =
    record {
      answers = λ T count stands. is ∙ sym (rows_undecided p t T count (written way) stands rows are long cases U e all);
      cases_are = λ T count stands f. absurd (false≢true (sym is ∙ f));
    }
