-- The places of a table stay right: the problem's unknowns stand first, and the children of what is opened stand together.
-- Assumes nothing.
use Rattle.std.proofs.Common.{◌≡◌, ℕ, zero, suc, ◌+◌, ◌-◌, ◌<◌, ◌≤◌, true, cond, eqb, ◌⊎◌, List, [], ◌∷◌, ◌++◌, length, get_or, sym, refl, ap, ◌∙◌, subst, inl, inr, arith, length-append, get_or-append-add}
use mathlib.Core.Option.{none, some}
use lib.ListN.{get_or-append}
use Rattle.std.proofs.lemmas.Bool.{cases_lt, cases_eq, cond-true, cond-false, eq-eqb, ne_eqb}
use Rattle.syntax.specs.Problems.{Problem}
use Rattle.judging.specs.Paths.{Path, root, child}
use Rattle.judging.specs.Asked.{◌∈◌, first, later}
use Rattle.finder.specs.Tables.{cases_at, width, arity, Entry, Table, paths, same_path, opening, closed_entry, roots_from, marked, kids_from, kids_of, opened_at, Distinct, ◌apart∷◌, Tabled}
use Rattle.depths.proofs.Finding.{not_none}
use Rattle.finder.proofs.Tables.{in_table, path_cases, same_path_self, same_path_not, opening_join, kids_of_unopened, kids_of_are, marked_paths, marked_off, roots_unopened}
use Rattle.places.specs.Places.{at, entry_at, offset, births, Placed, Appends}
use Rattle.places.specs.Claims.{BeginsPlaced, OpeningPlaces}

-- lists and places
pub length_paths : (T : Table) → length (paths T) ≡ length T
length_paths [] = refl
length_paths (x ∷ T) = ap suc (length_paths T)

pub paths_join : (X Y : Table) → paths (X ++ Y) ≡ paths X ++ paths Y
paths_join [] Y = refl
paths_join (x ∷ X) Y = ap (◌∷◌ x.path) (paths_join X Y)

pub at_entry : (T : Table) (n : ℕ) → at T n ≡ (entry_at T n).path
at_entry [] n = refl
at_entry (x ∷ T) zero = refl
at_entry (x ∷ T) (suc n) = at_entry T n

pub entry_in : (T : Table) (n : ℕ) → n < length T → entry_at T n ∈ T
entry_in [] n l = absurd (omega (arith, l))
entry_in (x ∷ T) zero l = first
entry_in (x ∷ T) (suc n) l = later (entry_in T n (omega (arith, l)))

pub getD_in : (us : List Path) (n : ℕ) (d : Path) → n < length us → get_or us n d ∈ us
getD_in [] n d l = absurd (omega (arith, l))
getD_in (u ∷ us) zero d l = first
getD_in (u ∷ us) (suc n) d l = later (getD_in us n d (omega (arith, l)))

pub one_place : (us : List Path) (i j : ℕ) (d : Path) → Distinct us → i < length us → j < length us → get_or us i d ≡ get_or us j d → i ≡ j
one_place [] i j d q l m e = absurd (omega (arith, l))
one_place (u ∷ us) zero zero d q l m e = refl
one_place (u ∷ us) zero (suc j) d (n apart∷ q) l m e = absurd (n (subst (λ v. v ∈ us) (sym e) (getD_in us j d (omega (arith, m)))))
one_place (u ∷ us) (suc i) zero d (n apart∷ q) l m e = absurd (n (subst (λ v. v ∈ us) e (getD_in us i d (omega (arith, l)))))
one_place (u ∷ us) (suc i) (suc j) d (n apart∷ q) l m e =
    ap suc (one_place us i j d q (omega (arith, l)) (omega (arith, m)) e)

pub at_in : (T : Table) (n : ℕ) → n < length T → at T n ∈ paths T
at_in T n l = let len = length_paths T in getD_in (paths T) n (root 0) (omega (arith, l, len))

pub kids_length : (u : Path) (c j n : ℕ) → length (kids_from u c j n) ≡ n
kids_length u c j zero = refl
kids_length u c j (suc n) = ap suc (kids_length u c (suc j) n)

pub kid_at : (u : Path) (c j n i : ℕ) (d : Entry) → i < n → get_or (kids_from u c j n) i d ≡ closed_entry (child u c (j + i))
kid_at u c j zero i d l = absurd (omega (arith, l))
kid_at u c j (suc n) zero d l = ap (λ x. closed_entry (child u c x)) same
  where
    same : j ≡ j + 0
    same = omega arith
kid_at u c j (suc n) (suc i) d l =
    kid_at u c (suc j) n i d (omega (arith, l)) ∙ ap (λ x. closed_entry (child u c x)) same
  where
    same : suc j + i ≡ j + suc i
    same = omega arith

pub kids_of_at : (u : Path) (c₀ : ℕ) (cs : List (List ℕ)) (c j : ℕ) (d : Entry) → c < length cs → j < length (get_or cs c [])
    → get_or (kids_of u c₀ cs) (offset cs c + j) d ≡ closed_entry (child u (c₀ + c) j)
kids_of_at u c₀ [] c j d l m = absurd (omega (arith, l))
kids_of_at u c₀ (ts ∷ cs) zero j d l m =
    let len = kids_length u c₀ 0 (length ts) in
    ap (λ x. get_or (kids_of u c₀ (ts ∷ cs)) x d) zj
    ∙ get_or-append (kids_from u c₀ 0 (length ts)) (kids_of u (suc c₀) cs) d j (omega (arith, m, len))
    ∙ kid_at u c₀ 0 (length ts) j d m
    ∙ (λ i. closed_entry (child u (cz i) (zj i)))
  where
    zj : 0 + j ≡ j
    zj = omega arith

    cz : c₀ ≡ c₀ + 0
    cz = omega arith
kids_of_at u c₀ (ts ∷ cs) (suc c) j d l m =
    let len = kids_length u c₀ 0 (length ts) in
    ap (λ x. get_or (kids_of u c₀ (ts ∷ cs)) x d) (omega (arith, len))
    ∙ get_or-append-add (kids_from u c₀ 0 (length ts)) (kids_of u (suc c₀) cs) (offset cs c + j) d
    ∙ kids_of_at u (suc c₀) cs c j d (omega (arith, l)) m
    ∙ ap (λ x. closed_entry (child u x j)) cz
  where
    cz : suc c₀ + c ≡ c₀ + suc c
    cz = omega arith

pub marked_length : (u : Path) (a : ℕ) (T : Table) → length (marked u a T) ≡ length T
marked_length u a [] = refl
marked_length u a (x ∷ T) = ap suc (marked_length u a T)

-- the start
pub roots_length : (k n : ℕ) → length (roots_from k n) ≡ n
roots_length k zero = refl
roots_length k (suc n) = ap suc (roots_length (suc k) n)

pub roots_at : (k n i : ℕ) → i < n → at (roots_from k n) i ≡ root (k + i)
roots_at k zero i l = absurd (omega (arith, l))
roots_at k (suc n) zero l = ap root (omega arith)
roots_at k (suc n) (suc i) l = roots_at (suc k) n i (omega (arith, l)) ∙ ap root (omega arith)

pub begins_placed : BeginsPlaced
begins_placed p =
    record {
      roots_first = λ k l.
          let len = roots_length 0 (length p.unknowns) in
          (omega (arith, l, len), roots_at 0 (length p.unknowns) k l ∙ ap root (omega arith));
      kids_placed = λ n a c j l e. not_none (roots_unopened 0 (length p.unknowns) _) e;
    }

-- opening
pub offset_below : (u : Path) (c₀ : ℕ) (cs : List (List ℕ)) (c j : ℕ) → c < length cs → j < length (get_or cs c [])
    → offset cs c + j < length (kids_of u c₀ cs)
offset_below u c₀ [] c j l m = absurd (omega (arith, l))
offset_below u c₀ (ts ∷ cs) zero j l m =
    let a = length-append (kids_from u c₀ 0 (length ts)) (kids_of u (suc c₀) cs) in
    let b = kids_length u c₀ 0 (length ts) in
    omega (arith, a, b, m)
offset_below u c₀ (ts ∷ cs) (suc c) j l m =
    let a = length-append (kids_from u c₀ 0 (length ts)) (kids_of u (suc c₀) cs) in
    let b = kids_length u c₀ 0 (length ts) in
    let ih = offset_below u (suc c₀) cs c j (omega (arith, l)) m in
    omega (arith, a, b, ih)

module _ (p : Problem) (T : Table) (count a : ℕ) (kids : ℕ → ℕ) (n : ℕ) (tab : Tabled p T count) (pl : Placed p T kids)
    (small : n < length T) (unopened : opening T (at T n) ≡ none) where
  abbrev u : Path
  u = at T n

  abbrev cs : List (List ℕ)
  cs = cases_at p u

  abbrev T' : Table
  T' = opened_at p u a T

  grown : length T' ≡ length T + length (kids_of u 0 cs)
  grown =
      let x = length-append (marked u a T) (kids_of u 0 cs) in
      let y = marked_length u a T in
      omega (arith, x, y)

  all_paths : paths T' ≡ paths T ++ paths (kids_of u 0 cs)
  all_paths = paths_join (marked u a T) (kids_of u 0 cs) ∙ ap (λ us. us ++ paths (kids_of u 0 cs)) (marked_paths u a T)

  old_at : (m : ℕ) → m < length T → at T' m ≡ at T m
  old_at m l =
      let len = length_paths T in
      ap (λ us. get_or us m (root 0)) all_paths ∙ get_or-append (paths T) (paths (kids_of u 0 cs)) (root 0) m (omega (arith, l, len))

  new_in : (i : ℕ) → i < length (kids_of u 0 cs) → at T' (length T + i) ∈ paths (kids_of u 0 cs)
  new_in i l =
      let len = length_paths T in
      let both : at T' (length T + i) ≡ at (kids_of u 0 cs) i =
      ap (λ us. get_or us (length T + i) (root 0)) all_paths
      ∙ ap (λ x. get_or (paths T ++ paths (kids_of u 0 cs)) (x + i) (root 0)) (sym len)
      ∙ get_or-append-add (paths T) (paths (kids_of u 0 cs)) i (root 0) in
      subst (λ v. v ∈ paths (kids_of u 0 cs)) (sym both) (at_in (kids_of u 0 cs) i l)

  -- what is opened now was in the table before
  opened_before : (v : Path) (b : ℕ) → opening T' v ≡ some b → v ∈ paths T
  opened_before v b e = go (path_cases v u)
    where
      go : (v ≡ u) ⊎ (¬ (v ≡ u)) → v ∈ paths T
      go (inl f) = subst (λ x. x ∈ paths T) (sym f) (at_in T n small)
      go (inr f) =
          in_table T v b
          (sym (opening_join (marked u a T) (kids_of u 0 cs) (kids_of_unopened u 0 cs) v ∙ marked_off u a T v f) ∙ e)

  not_new : (v : Path) → v ∈ paths T → v ∈ paths (kids_of u 0 cs) → ⊥
  not_new v m k =
      let r = kids_of_are u 0 cs v k in
      let q = tab.parents u (0 + r.0) r.1 (subst (λ x. x ∈ paths T) r.2 m) in
      not_none unopened q.1

  child_place : {c j : ℕ} → c < width p u → j < arity p u c → entry_at T' (length T + (offset cs c + j)) ≡ closed_entry (child u c j)
  child_place {c} {j} l m =
      let len = marked_length u a T in
      ap (λ x. entry_at T' (x + (offset cs c + j))) (sym len)
      ∙ get_or-append-add (marked u a T) (kids_of u 0 cs) (offset cs c + j) (closed_entry (root 0))
      ∙ kids_of_at u 0 cs c j (closed_entry (root 0)) l m
      ∙ ap (λ x. closed_entry (child u x j)) zero_more
    where
      zero_more : 0 + c ≡ c
      zero_more = omega arith

  kids_now : (m b c j : ℕ) → m < length T → opening T' (at T m) ≡ some b → c < width p (at T m)
      → j < arity p (at T m) c
      → (cond (eqb m n) (length T) (kids m) + (offset (cases_at p (at T m)) c + j) < length T')
      × (at T' (cond (eqb m n) (length T) (kids m) + (offset (cases_at p (at T m)) c + j)) ≡ child (at T m) c j)
  kids_now m b c j l e k i = go (cases_eq m n)
    where
      Goal : ℕ → ℕ → Type 0
      Goal x y = (x + (offset (cases_at p (at T y)) c + j) < length T')
          × (at T' (x + (offset (cases_at p (at T y)) c + j)) ≡ child (at T y) c j)

      newest : c < width p u → j < arity p u c → Goal (length T) n
      newest k i =
          let o = offset_below u 0 cs c j k i in
          let g = grown in
          (omega (arith, o, g), at_entry T' _ ∙ ap (λ (x : Entry). x.path) (child_place k i))

      older : ¬ (m ≡ n) → Goal (kids m) m
      older f =
          let len = length_paths T in
          let apart : ¬ (at T m ≡ u) =
          λ x. f (one_place (paths T) m n (root 0) tab.distinct (omega (arith, l, len)) (omega (arith, small, len)) x) in
          let o : opening T (at T m) ≡ some b =
          sym (opening_join (marked u a T) (kids_of u 0 cs) (kids_of_unopened u 0 cs) (at T m) ∙ marked_off u a T (at T m) apart) ∙ e in
          let q = pl.kids_placed m b c j l o k i in
          let q0 = q.0 in
          let g = grown in
          (omega (arith, q0, g), old_at _ q.0 ∙ q.1)

      go : (m ≡ n) ⊎ (¬ (m ≡ n)) → Goal (cond (eqb m n) (length T) (kids m)) m
      go (inl f) =
          subst (λ x. Goal x m) (sym (cond-true (eqb m n) (length T) (kids m) (eq-eqb m n f)))
          (subst (λ y. Goal (length T) y) (sym f)
          (newest (subst (λ y. c < width p (at T y)) f k) (subst (λ y. j < arity p (at T y) c) f i)))
      go (inr f) = subst (λ x. Goal x m) (sym (cond-false (eqb m n) (length T) (kids m) (ne_eqb m n f))) (older f)

  placed_now : Placed p T' (λ m. cond (eqb m n) (length T) (kids m))
  placed_now =
      record {
        roots_first = λ k l.
            let q = pl.roots_first k l in
            let q0 = q.0 in
            let g = grown in
            (omega (arith, q0, g), old_at k q.0 ∙ q.1);
        kids_placed = λ m b c j l e. pick m b c j l e (cases_lt m (length T));
      }
    where
      pick : (m b c j : ℕ) → m < length T' → opening T' (at T' m) ≡ some b → (m < length T) ⊎ (length T ≤ m)
          → c < width p (at T' m) → j < arity p (at T' m) c
          → (cond (eqb m n) (length T) (kids m) + (offset (cases_at p (at T' m)) c + j) < length T')
          × (at T' (cond (eqb m n) (length T) (kids m) + (offset (cases_at p (at T' m)) c + j)) ≡ child (at T' m) c j)
      pick m b c j l e (inl small') =
          let same = old_at m small' in
          subst
          (λ v. c < width p v → j < arity p v c
          → (cond (eqb m n) (length T) (kids m) + (offset (cases_at p v) c + j) < length T')
          × (at T' (cond (eqb m n) (length T) (kids m) + (offset (cases_at p v) c + j)) ≡ child v c j))
          (sym same) (kids_now m b c j small' (subst (λ v. opening T' v ≡ some b) same e))
      pick m b c j l e (inr far) =
          let g = grown in
          let i : m ≡ length T + (m - length T) = omega (arith, far) in
          absurd (not_new (at T' m) (opened_before (at T' m) b e)
          (subst (λ x. at T' x ∈ paths (kids_of u 0 cs)) (sym i) (new_in (m - length T) (omega (arith, g, l, far)))))

pub kids_of_length : (u : Path) (c : ℕ) (cs : List (List ℕ)) → length (kids_of u c cs) ≡ births cs
kids_of_length u c [] = refl
kids_of_length u c (ts ∷ cs) =
    let a = length-append (kids_from u c 0 (length ts)) (kids_of u (suc c) cs) in
    let b = kids_length u c 0 (length ts) in
    let ih = kids_of_length u (suc c) cs in
    omega (arith, a, b, ih)

-- opening marks one entry
pub marked_here : (u : Path) (a : ℕ) (T : Table) (i : ℕ) → i < length T → (entry_at T i).path ≡ u
    → entry_at (marked u a T) i ≡ record { path = u; first = some a }
marked_here u a [] i l e = absurd (omega (arith, l))
marked_here u a (x ∷ T) zero l e =
    cond-true _ _ _ (subst (λ v. same_path x.path v ≡ true) e (same_path_self x.path)) ∙ ap (λ v. record { path = v; first = some a }) e
marked_here u a (x ∷ T) (suc i) l e = marked_here u a T i (omega (arith, l)) e

pub marked_else : (u : Path) (a : ℕ) (T : Table) (i : ℕ) → i < length T → ¬ ((entry_at T i).path ≡ u) → entry_at (marked u a T) i ≡ entry_at T i
marked_else u a [] i l e = absurd (omega (arith, l))
marked_else u a (x ∷ T) zero l e = cond-false _ _ _ (same_path_not x.path u e)
marked_else u a (x ∷ T) (suc i) l e = marked_else u a T i (omega (arith, l)) e

pub opening_places : OpeningPlaces
opening_places p T count a kids n tab pl small un = (placed_now p T count a kids n tab pl small un, appended)
  where
    u : Path
    u = at T n

    front : (m : ℕ) → m < length T → entry_at (opened_at p (at T n) a T) m ≡ entry_at (marked (at T n) a T) m
    front m l =
        let len = marked_length (at T n) a T in
        get_or-append (marked (at T n) a T) (kids_of (at T n) 0 (cases_at p (at T n))) (closed_entry (root 0)) m (omega (arith, l, len))

    appended : Appends p T n a (opened_at p (at T n) a T)
    appended =
        record {
          long = (let g = grown p T count a kids n tab pl small un in let k = kids_of_length (at T n) 0 (cases_at p (at T n)) in omega (arith, g, k));
          opened = front n small ∙ marked_here (at T n) a T n small (sym (at_entry T n));
          others = λ m l f.
              let len = length_paths T in
              front m l ∙ marked_else (at T n) a T m l
              (λ e. f (one_place (paths T) m n (root 0) tab.distinct (omega (arith, l, len)) (omega (arith, small, len)) (at_entry T m ∙ e)));
          children = λ c j l m. child_place p T count a kids n tab pl small un l m;
        }
