-- A table whose unknown was opened stands for the abstract table with that unknown opened: the rows that were there say what they
-- said, but for the opened one, and the rows behind them are the children's. Assumes nothing.
use Rattle.std.proofs.Common.{◌≡◌, ℕ, zero, suc, ◌+◌, ◌-◌, ◌<◌, ◌≤◌, Bool, true, false, cond, eqb, ◌⊎◌, List, [], ◌∷◌, ◌++◌, set, length, get_or, sym, refl, ap, ◌∙◌, subst, inl, inr, zero-add, arith, get_or-append-add}
use mathlib.Core.Option.{none, some}
use Rattle.std.proofs.lemmas.List.{get_or-set_same, get_or-set_other, get_or_append_left, length-set, length-take-le}
use Rattle.std.proofs.lemmas.Bool.{cases_lt, cases_eq, cond-true, cond-false, eq-eqb, ne_eqb}
use Rattle.syntax.specs.Typing.{cases_of}
use Rattle.syntax.specs.Problems.{Problem, sig_of}
use Rattle.judging.specs.Paths.{Path, child, type_of}
use Rattle.judging.specs.Asked.{◌∈◌, first, later}
use Rattle.finder.specs.Levels.{measures, level}
use Rattle.finder.specs.Tables.{Entry, Table, cases_at, width, paths, same_path, opening, closed_entry, marked, kids_from, kids_of, opened_at, Distinct, ◌apart∷◌, Tabled}
use Rattle.depths.proofs.Finding.{not_none}
use Rattle.finder.proofs.Tables.{in_cons, same_path_is, same_path_not, opening_entry, not_head}
use Rattle.finder.proofs.Invariant.{opening_tabled}
use Rattle.places.specs.Places.{at, entry_at, offset, births, Placed, Appends}
use Rattle.places.proofs.Openings.{at_entry, at_in, entry_in, opening_places}
use Rattle.unknowns.specs.declared.table.Unknown.{Unknown}
use Rattle.unknowns.specs.declared.table.Table.{Table as Code}
use Rattle.unknowns.specs.Listing.{blank, row, Row, Stands, taken, taken_by}
use Rattle.unknowns.specs.Opening.{rows_of, unopened, opened_row, level_under, kids_under, Opens}
use Rattle.unknowns.proofs.Rows.{row_of, which, kid_at}

-- the variables that the opened unknowns have
taken_join : (p : Problem) (X Y : Table) → taken p (X ++ Y) ≡ taken p X + taken p Y
taken_join p [] Y = omega arith
taken_join p (x ∷ X) Y = let ih = taken_join p X Y in omega (arith, ih)

none_taken : (p : Problem) (u : Path) (c j n : ℕ) → taken p (kids_from u c j n) ≡ 0
none_taken p u c j zero = refl
none_taken p u c j (suc n) = let ih = none_taken p u c (suc j) n in omega (arith, ih)

no_kid_taken : (p : Problem) (u : Path) (c : ℕ) (cs : List (List ℕ)) → taken p (kids_of u c cs) ≡ 0
no_kid_taken p u c [] = refl
no_kid_taken p u c (ts ∷ cs) =
    let a = taken_join p (kids_from u c 0 (length ts)) (kids_of u (suc c) cs) in
    let b = none_taken p u c 0 (length ts) in
    let ih = no_kid_taken p u (suc c) cs in
    omega (arith, a, b, ih)

abbrev taken_entry : Problem → Entry → ℕ
taken_entry p y = taken_by p y y.first

taken_off : (p : Problem) (u : Path) (a : ℕ) (T : Table) → ¬ (u ∈ paths T) → taken p (marked u a T) ≡ taken p T
taken_off p u a [] n = refl
taken_off p u a (x ∷ T) n =
    let other = same_path_not x.path u (λ e. n (subst (λ v. v ∈ (x.path ∷ paths T)) e first)) in
    λ i. taken_entry p (cond-false (same_path x.path u) (record { path = x.path; first = some a }) x other i) + taken_off p u a T (λ m. n (later m)) i

taken_marked : (p : Problem) (u : Path) (a : ℕ) (T : Table) → Distinct (paths T) → u ∈ paths T → opening T u ≡ none
    → taken p (marked u a T) ≡ taken p T + width p u
taken_marked p u a [] d m e = elim m [ ]
taken_marked p u a (x ∷ T) (n apart∷ d) m e = go (same_path x.path u) refl (taken_marked p u a T d)
  where
    go : (b : Bool) → same_path x.path u ≡ b → (u ∈ paths T → opening T u ≡ none → taken p (marked u a T) ≡ taken p T + width p u)
        → taken p (marked u a (x ∷ T)) ≡ taken p (x ∷ T) + width p u
    go true s ih =
        let same = same_path_is x.path u s in
        let here = ap (taken_entry p) (cond-true (same_path x.path u) (record { path = x.path; first = some a }) x s) in
        let wide = ap (width p) same in
        let closed : taken_entry p x ≡ 0 = ap (taken_by p x) (sym (cond-true _ _ _ s) ∙ e) in
        let rest = taken_off p u a T (subst (λ v. ¬ (v ∈ paths T)) same n) in
        omega (arith, here, wide, closed, rest)
    go false s ih =
        let here = ap (taken_entry p) (cond-false (same_path x.path u) (record { path = x.path; first = some a }) x s) in
        let rest = ih (not_head x u T s (in_cons m)) (sym (cond-false _ _ _ s) ∙ e) in
        omega (arith, here, rest)

-- a row stands for an entry, wherever it is
row_by : (p : Problem) (T T' : Table) (m : ℕ) (x : Unknown) → entry_at T' m ≡ entry_at T m → Row p T m x → Row p T' m x
row_by p T T' m x e r =
    record {
      typed = r.typed ∙ ap (type_of (sig_of p)) (sym same);
      levelled = r.levelled ∙ ap (λ u. level p (measures p) u) (sym same);
      opened = r.opened ∙ ap (λ (y : Entry). y.first) (sym e);
      low = r.low;
      ahead = r.ahead;
    }
  where
    same : at T' m ≡ at T m
    same = at_entry T' m ∙ ap (λ (y : Entry). y.path) e ∙ sym (at_entry T m)

-- places are right by whatever says the same of what is opened
placed_by : (p : Problem) (T : Table) (kids kids' : ℕ → ℕ) → ((m a : ℕ) → m < length T → opening T (at T m) ≡ some a → kids m ≡ kids' m)
    → Placed p T kids → Placed p T kids'
placed_by p T kids kids' same pl =
    record {
      roots_first = pl.roots_first;
      kids_placed = λ i a c j l e lc lj.
          subst (λ k. (k + (offset (cases_at p (at T i)) c + j) < length T) × (at T (k + (offset (cases_at p (at T i)) c + j)) ≡ child (at T i) c j))
          (same i a l e) (pl.kids_placed i a c j l e lc lj);
    }

-- What is appended, and the one row that changes, where cs has the types of the children.
module _ (p : Problem) (t t' : Code) (i a : ℕ) (cs : List (List ℕ)) (inside : i < t.len) (fits : t.len ≤ length t.rows)
    (grown : t'.len ≡ t.len + births cs)
    (is : rows_of t' ≡ set (rows_of t) i (opened_row (row t i) a t.len) ++ kids_under p (row t i) 0 cs) where
  abbrev front : List Unknown
  front = set (rows_of t) i (opened_row (row t i) a t.len)

  abbrev behind : List Unknown
  behind = kids_under p (row t i) 0 cs

  front_long : length front ≡ t.len
  front_long = length-set (rows_of t) i (opened_row (row t i) a t.len) ∙ length-take-le t.len t.rows fits

  row_in_front : (m : ℕ) → m < t.len → row t' m ≡ get_or front m blank
  row_in_front m l =
      let f = front_long in
      row_of t' m (omega (arith, l, grown)) ∙ ap (λ xs. get_or xs m blank) is ∙ get_or_append_left front behind blank m (omega (arith, l, f))

  row_here : row t' i ≡ opened_row (row t i) a t.len
  row_here =
      let f = length-take-le t.len t.rows fits in
      row_in_front i inside ∙ get_or-set_same (rows_of t) i (opened_row (row t i) a t.len) blank (omega (arith, f, inside))

  row_else : (m : ℕ) → m < t.len → ¬ (m ≡ i) → row t' m ≡ row t m
  row_else m l n = row_in_front m l ∙ get_or-set_other (rows_of t) i m (opened_row (row t i) a t.len) blank n ∙ sym (row_of t m l)

  row_behind : (k : ℕ) → k < births cs → row t' (t.len + k) ≡ get_or behind k blank
  row_behind k l =
      row_of t' (t.len + k) (omega (arith, l, grown))
      ∙ ap (λ xs. get_or xs (t.len + k) blank) is
      ∙ ap (λ z. get_or (front ++ behind) (z + k) blank) (sym front_long)
      ∙ get_or-append-add front behind k blank

module _ (p : Problem) (t t' : Code) (i a : ℕ) (inside : i < t.len) (few : t.len ≤ 512) (fits : t.len ≤ length t.rows)
    (T : Table) (S : Stands p t T a) (un : opening T (at T i) ≡ none) (grown : t'.len ≡ t.len + births (cases_at p (at T i)))
    (is : rows_of t' ≡ set (rows_of t) i (opened_row (row t i) a t.len) ++ kids_under p (row t i) 0 (cases_at p (at T i))) where
  abbrev u : Path
  u = at T i

  abbrev T' : Table
  T' = opened_at p (at T i) a T

  low : i < length T
  low = let e = S.lists.long in omega (arith, e, inside)

  own : Row p T i (row t i)
  own = S.lists.rows i low

  placed : Placed p T' (λ m. cond (eqb m i) (length T) (row t m).kids)
  placed = (opening_places p T a a (λ m. (row t m).kids) i S.tabled S.lists.placed low un).0

  appends : Appends p T i a T'
  appends = (opening_places p T a a (λ m. (row t m).kids) i S.tabled S.lists.placed low un).1

  tabled : Tabled p T' (a + width p u)
  tabled = opening_tabled p T a u S.tabled (at_in T i low) un

  long : t'.len ≡ length T'
  long =
      let e = S.lists.long in
      let f = appends.long in
      omega (arith, e, f, grown)

  row_opened : Row p T' i (row t' i)
  row_opened =
      subst (Row p T' i) (sym (row_here p t t' i a (cases_at p u) inside fits grown is))
      (record {
        typed = own.typed ∙ ap (type_of (sig_of p)) (sym here);
        levelled = own.levelled ∙ ap (λ v. level p (measures p) v) (sym here);
        opened = sym (ap (λ (y : Entry). y.first) appends.opened);
        low = own.low;
        ahead = λ b e. inside;
      })
    where
      here : at T' i ≡ at T i
      here = at_entry T' i ∙ ap (λ (y : Entry). y.path) appends.opened

  -- the k-th child
  record Born (k : ℕ) : Type 0 where
    con : ℕ
    arg : ℕ
    row_is : row t' (t.len + k) ≡ unopened (level_under p (row t i) con) (get_or (get_or (cases_at p (at T i)) con []) arg 0)
    entry_is : entry_at T' (t.len + k) ≡ closed_entry (child (at T i) con arg)

  born : (k : ℕ) → k < births (cases_at p u) → Born k
  born k l =
      let q = which (cases_at p u) k l in
      let e = S.lists.long in
      let k_is = q.2 in
      record {
        con = q.0;
        arg = q.1;
        row_is = row_behind p t t' i a (cases_at p u) inside fits grown is k l
            ∙ ap (λ z. get_or (kids_under p (row t i) 0 (cases_at p u)) z blank) q.2
            ∙ kid_at p (row t i) 0 (cases_at p u) q.0 q.1 q.3 q.4
            ∙ ap (λ c. unopened (level_under p (row t i) c) (get_or (get_or (cases_at p u) q.0 []) q.1 0)) (zero-add q.0);
        entry_is = ap (entry_at T') (omega (arith, e, k_is)) ∙ appends.children q.0 q.1 q.3 q.4;
      }

  row_born : (k : ℕ) → k < births (cases_at p u) → Row p T' (t.len + k) (row t' (t.len + k))
  row_born k l =
      let b = born k l in
      let here : at T' (t.len + k) ≡ child (at T i) b.con b.arg = at_entry T' (t.len + k) ∙ ap (λ (y : Entry). y.path) b.entry_is in
      let levels = own.levelled in
      let deep = own.low in
      subst (Row p T' (t.len + k)) (sym b.row_is)
      (record {
        typed = ap (type_of (sig_of p)) (sym here);
        levelled = level_is b.con b.arg ∙ ap (λ v. level p (measures p) v) (sym here);
        opened = sym (ap (λ (y : Entry). y.first) b.entry_is);
        low = omega (arith, deep, inside);
        ahead = λ b e. cc;
      })
    where
      level_is : (c j : ℕ) → level_under p (row t i) c ≡ level p (measures p) (child (at T i) c j)
      level_is c j = let same = own.levelled in let deep = own.low in omega (arith, same, deep, few, inside)

  rows : (m : ℕ) → m < length T' → Row p T' m (row t' m)
  rows m l = go (cases_lt m t.len)
    where
      before : m < t.len → (m ≡ i) ⊎ (¬ (m ≡ i)) → Row p T' m (row t' m)
      before b (inl e) = subst (λ z. Row p T' z (row t' z)) (sym e) row_opened
      before b (inr n) =
          let e = S.lists.long in
          let in_table : m < length T = omega (arith, e, b) in
          subst (Row p T' m) (sym (row_else p t t' i a (cases_at p u) inside fits grown is m b n))
          (row_by p T T' m (row t m) (appends.others m in_table n) (S.lists.rows m in_table))

      go : (m < t.len) ⊎ (t.len ≤ m) → Row p T' m (row t' m)
      go (inl b) = before b (cases_eq m i)
      go (inr b) =
          let e = S.lists.long in
          let f = appends.long in
          subst (λ z. Row p T' z (row t' z)) (omega (arith, b)) (row_born (m - t.len) (omega (arith, b, l, e, f)))

  -- the place of the children of what is opened, which the new rows are not
  kids_are : (m b : ℕ) → m < length T' → opening T' (at T' m) ≡ some b → cond (eqb m i) (length T) (row t m).kids ≡ (row t' m).kids
  kids_are m b l o = go (cases_lt m t.len)
    where
      before : m < t.len → (m ≡ i) ⊎ (¬ (m ≡ i)) → cond (eqb m i) (length T) (row t m).kids ≡ (row t' m).kids
      before k (inl e) =
          cond-true (eqb m i) (length T) (row t m).kids (eq-eqb m i e)
          ∙ sym S.lists.long
          ∙ sym (ap (λ (y : Unknown). y.kids) (ap (row t') e ∙ row_here p t t' i a (cases_at p u) inside fits grown is))
      before k (inr n) =
          cond-false (eqb m i) (length T) (row t m).kids (ne_eqb m i n)
          ∙ sym (ap (λ (y : Unknown). y.kids) (row_else p t t' i a (cases_at p u) inside fits grown is m k n))

      closed : (k : ℕ) → k < births (cases_at p u) → m ≡ t.len + k → opening T' (at T' m) ≡ none
      closed k small e =
          ap (opening T') (at_entry T' m)
          ∙ opening_entry T' (entry_at T' m) tabled.distinct (entry_in T' m l)
          ∙ ap (λ z. (entry_at T' z).first) e
          ∙ ap (λ (y : Entry). y.first) (born k small).entry_is

      go : (m < t.len) ⊎ (t.len ≤ m) → cond (eqb m i) (length T) (row t m).kids ≡ (row t' m).kids
      go (inl k) = before k (cases_eq m i)
      go (inr k) =
          let e = S.lists.long in
          let f = appends.long in
          not_none (closed (m - t.len) (omega (arith, k, l, e, f)) (omega (arith, k))) o

  full : length p.goals + taken p T' ≡ a + width p u
  full =
      let x = taken_join p (marked u a T) (kids_of u 0 (cases_at p u)) in
      let y = taken_marked p u a T S.tabled.distinct (at_in T i low) un in
      let z = no_kid_taken p u 0 (cases_at p u) in
      let w = S.full in
      omega (arith, x, y, z, w)

  stands : Stands p t' T' (a + width p u)
  stands =
      record {
        lists = record { long = long; rows = rows; placed = placed_by p T' _ (λ m. (row t' m).kids) kids_are placed };
        tabled = tabled;
        full = full;
      }

-- how many rows are in use after an opening, and which
pub record Grown (p : Problem) (t : Code) (i a : ℕ) (t' : Code) : Type 0 where
  pub long : t'.len ≡ t.len + births (cases_of (sig_of p) (row t i).ty)
  pub rows : rows_of t' ≡ set (rows_of t) i (opened_row (row t i) a t.len) ++ kids_under p (row t i) 0 (cases_of (sig_of p) (row t i).ty)

pub opens : (p : Problem) (t t' : Code) (i a : ℕ) → i < t.len → t.len ≤ 512 → t.len ≤ length t.rows → Grown p t i a t' → Opens p t i a t'
opens p t t' i a inside few fits g = record { keeps = keep }
  where
    keep : (T : Table) (count : ℕ) → Stands p t T count → opening T (at T i) ≡ none → a ≡ count
        → Stands p t' (opened_at p (at T i) count T) (count + width p (at T i))
    keep T count S un e =
        let long = S.lists.long in
        let typed = (S.lists.rows i (omega (arith, long, inside))).typed in
        subst (λ n. Stands p t' (opened_at p (at T i) n T) (n + width p (at T i))) e
        (stands p t t' i a inside few fits T (subst (Stands p t T) (sym e) S) un
        (g.long ∙ ap (λ ty. t.len + births (cases_of (sig_of p) ty)) typed)
        (g.rows ∙ ap (λ ty. set (rows_of t) i (opened_row (row t i) a t.len) ++ kids_under p (row t i) 0 (cases_of (sig_of p) ty)) typed))
