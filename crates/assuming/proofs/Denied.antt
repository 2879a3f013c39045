-- The denials by the rows of a table that stands are those of the unknowns that the rows are of. Assumes nothing.
use Rattle.std.proofs.Common.{◌≡◌, ℕ, zero, suc, ◌+◌, ◌-◌, ◌<◌, ◌≤◌, cond, ltb, leb, List, [], ◌∷◌, ◌++◌, length, get_or, take, Option as Maybe, Some, None, ◌⊎◌, inl, inr, sym, refl, ap, ◌∙◌, arith}
use Rattle.std.proofs.Math.Option.{some}
use Rattle.std.proofs.Math.Nat.{min-eq_left}
use Rattle.std.proofs.lemmas.List.{get_or-take, get_or_past, length-take-le}
use Rattle.std.proofs.lemmas.Bool.{cases_lt}
use Rattle.std.specs.List.{flat_map}
use Rattle.syntax.specs.Typing.{constructors}
use Rattle.syntax.specs.Least.{least_of, need_of}
use Rattle.syntax.specs.Problems.{Problem, sig_of}
use Rattle.judging.specs.Paths.{Path, root, child, type_of}
use Rattle.finder.specs.Levels.{measures, level}
use Rattle.finder.specs.Tables.{Entry, Table, width}
use Rattle.finder.specs.Clauses.{off}
use Rattle.finder.specs.Asking.{deep_cases, denials_at, denials}
use Rattle.places.proofs.Openings.{at_entry, entry_in}
use Rattle.places.specs.Places.{at, entry_at}
use Rattle.unknowns.specs.Listing.{maybe, blank, Lists, Stands}
use Rattle.unknowns.specs.declared.table.Unknown.{Unknown}
use Rattle.unknowns.specs.declared.table.Table.{Table as Code}
use Rattle.assuming.specs.Denied.{capped, row_cases, opened_denials, row_denials, denials as rows-denials}
use Rattle.assuming.proofs.Asked.{Below, entry_below}

-- the row x is of the entry y, whose variables 16 bits can name
record Of (p : Problem) (x : Unknown) (y : Entry) : Type 0 where
  typed : x.ty ≡ type_of (sig_of p) y.path
  levelled : x.level ≡ level p (measures p) y.path
  opened : maybe x.first ≡ y.first
  below : Below p 32768 y

module _ (p : Problem) (n : ℕ) (x : Unknown) (u : Path) (typed : x.ty ≡ type_of (sig_of p) u) (levelled : x.level ≡ level p (measures p) u) where
  same_reach : (m : ℕ) → x.level + need_of (sig_of p) x.ty m - 1 ≡ level p (measures p) u + need_of (sig_of p) (type_of (sig_of p) u) m - 1
  same_reach m =
      ap (λ (k : ℕ). k + need_of (sig_of p) x.ty m - 1) levelled
      ∙ ap (λ (t : ℕ). level p (measures p) u + need_of (sig_of p) t m - 1) typed

  same_least : x.level + least_of (sig_of p) x.ty - 1 ≡ level p (measures p) u + least_of (sig_of p) (type_of (sig_of p) u) - 1
  same_least =
      ap (λ (k : ℕ). k + least_of (sig_of p) x.ty - 1) levelled
      ∙ ap (λ (t : ℕ). level p (measures p) u + least_of (sig_of p) t - 1) typed

  cases_are : (a m : ℕ) → a + m ≤ 32768 → row_cases (sig_of p) n x a m ≡ deep_cases p (measures p) n u a m
  cases_are a zero h = refl
  cases_are a (suc m) h =
      let ds = deep_cases p (measures p) n u a m in
      let ih = cases_are a m (omega (arith, h)) in
      let literal : capped (off (a + m)) ≡ off (a + m) = min-eq_left (omega (arith, h)) in
      ap (λ (k : ℕ). cond (ltb n k) (row_cases (sig_of p) n x a m ++ (capped (off (a + m)) ∷ [])) (row_cases (sig_of p) n x a m)) (same_reach m)
      ∙ ap (λ (ls : List ℕ). cond (ltb n (level p (measures p) u + need_of (sig_of p) (type_of (sig_of p) u) m - 1)) (ls ++ (capped (off (a + m)) ∷ [])) ls) ih
      ∙ ap (λ (l : ℕ). cond (ltb n (level p (measures p) u + need_of (sig_of p) (type_of (sig_of p) u) m - 1)) (ds ++ (l ∷ [])) ds) literal

  opened_are : (o : Maybe ℕ) → ((a : ℕ) → maybe o ≡ some a → a + width p u ≤ 32768)
      → opened_denials (sig_of p) n x o ≡ denials_at p (measures p) n u (maybe o)
  opened_are None h = refl
  opened_are (Some a) h =
      let m : constructors (sig_of p) x.ty ≡ width p u = ap (constructors (sig_of p)) typed in
      ap (λ (k : ℕ). cond (leb k n) (row_cases (sig_of p) n x a (constructors (sig_of p) x.ty)) []) same_least
      ∙ ap (λ (ls : List ℕ). cond (leb (level p (measures p) u + least_of (sig_of p) (type_of (sig_of p) u) - 1) n) ls [])
      (ap (row_cases (sig_of p) n x a) m ∙ cases_are a (width p u) (h a refl))

row_are : (p : Problem) (n : ℕ) (x : Unknown) (y : Entry) → Of p x y
    → row_denials (sig_of p) n x ≡ denials_at p (measures p) n y.path y.first
row_are p n x y of =
    opened_are p n x y.path of.typed of.levelled x.first (λ a e. of.below a (sym of.opened ∙ e))
    ∙ ap (denials_at p (measures p) n y.path) of.opened

rows_are : (p : Problem) (n : ℕ) (xs : List Unknown) (T : Table) → length xs ≡ length T
    → ((i : ℕ) → i < length T → Of p (get_or xs i blank) (entry_at T i))
    → flat_map (row_denials (sig_of p) n) xs ≡ denials p (measures p) n T
rows_are p n [] [] e of = refl
rows_are p n [] (y ∷ T) e of = let z : ⊥ = omega (arith, e) in absurd z
rows_are p n (x ∷ xs) [] e of = let z : ⊥ = omega (arith, e) in absurd z
rows_are p n (x ∷ xs) (y ∷ T) e of =
    let here = row_are p n x y (of 0 (omega arith)) in
    let others = rows_are p n xs T (omega (arith, e)) (λ i l. of (suc i) (omega (arith, l))) in
    ap (λ (ls : List ℕ). ls ++ flat_map (row_denials (sig_of p) n) xs) here
    ∙ ap (λ (ls : List ℕ). denials_at p (measures p) n y.path y.first ++ ls) others

level_positive : (p : Problem) (u : Path) → 0 < level p (measures p) u
level_positive p (root k) = omega arith
level_positive p (child u c j) = omega arith

-- past the end of the rows all is blank, and no unknown is at level 0
long_enough : (p : Problem) (t : Code) (T : Table) → Lists p t T → t.len ≤ length t.rows
long_enough p t T lists = go (cases_lt (length t.rows) t.len)
  where
    go : (length t.rows < t.len) ⊎ (t.len ≤ length t.rows) → t.len ≤ length t.rows
    go (inl h) =
        let i = length t.rows in
        let r = lists.rows i (omega (arith, h, lists.long)) in
        let level = ap (λ (x : Unknown). x.level) (get_or_past t.rows i blank (omega arith)) in
        let z : ⊥ = omega (arith, level, r.levelled, level_positive p (at T i)) in
        absurd z
    go (inr h) = h

pub denials_are : (p : Problem) (n : ℕ) (t : Code) (T : Table) (count : ℕ) → Stands p t T count → count ≤ 32768
    → rows-denials (sig_of p) n (take t.len t.rows) ≡ denials p (measures p) n T
denials_are p n t T count s few =
    rows_are p n (take t.len t.rows) T (length-take-le t.len t.rows (long_enough p t T s.lists) ∙ s.lists.long) of
  where
    of : (i : ℕ) → i < length T → Of p (get_or (take t.len t.rows) i blank) (entry_at T i)
    of i l =
        let r = s.lists.rows i l in
        let same = get_or-take t.len t.rows i blank (omega (arith, l, s.lists.long)) in
        let path = at_entry T i in
        record {
          typed = ap (λ (x : Unknown). x.ty) same ∙ r.typed ∙ ap (type_of (sig_of p)) path;
          levelled = ap (λ (x : Unknown). x.level) same ∙ r.levelled ∙ ap (level p (measures p)) path;
          opened = ap (λ (x : Unknown). maybe x.first) same ∙ r.opened;
          below = λ a e. omega (arith, few, entry_below p T count s.tabled (entry_at T i) (entry_in T i l) a e);
        }
