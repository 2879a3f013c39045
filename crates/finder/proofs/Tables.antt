-- The table of unknowns: telling paths apart, looking unknowns up, and the tables that openings make. Assumes nothing.
use Rattle.std.proofs.Common.{◌≡◌, ℕ, zero, suc, ◌+◌, ◌<◌, Bool, true, false, cond, ◌&&◌, eqb, ◌⊎◌, List, [], ◌∷◌, ◌++◌, length, get_or, sym, refl, ap, ◌∙◌, subst, inl, inr, arith}
use mathlib.Core.Option.{Option, none, some, none-ne-some, some-injective}
use Rattle.std.proofs.lemmas.Bool.{both_ways, eqb-true, eq-eqb, and_parts, and_from, cond-true, cond-false, false≢true}
use Rattle.syntax.specs.Typing.{Declared}
use Rattle.syntax.specs.Problems.{Problem, sig_of, Lawful}
use Rattle.depths.proofs.Lawfulness.{each_at, lawful_types}
use Rattle.judging.specs.Paths.{Path, root, child, type_of}
use Rattle.judging.specs.Asked.{◌∈◌, first, later}
use Rattle.finder.specs.Tables.{Entry, Table, paths, same_path, opening, roots_from, marked, kids_from, kids_of, Distinct, apart[], ◌apart∷◌, Tabled}

pub same_some : {A : Type 0} {a b : A} {o : Option A} → o ≡ some a → o ≡ some b → a ≡ b
same_some {a = a} {b = b} e f = some-injective a b (sym e ∙ f)

pub in_cons : {A : Type 0} {x y : A} {xs : List A} → x ∈ (y ∷ xs) → (y ≡ x) ⊎ (x ∈ xs)
in_cons first = inl refl
in_cons (later m) = inr m

-- the test of paths
pub same_path_is : (u v : Path) → same_path u v ≡ true → u ≡ v
same_path_is (root k) (root l) e = ap root (eqb-true k l e)
same_path_is (root k) (child v d i) e = absurd (false≢true e)
same_path_is (child u c j) (root l) e = absurd (false≢true e)
same_path_is (child u c j) (child v d i) e =
    let a = and_parts (same_path u v) (eqb c d && eqb j i) e in
    let b = and_parts (eqb c d) (eqb j i) a.1 in
    λ i'. child (same_path_is u v a.0 i') (eqb-true c d b.0 i') (eqb-true j i b.1 i')

pub same_path_self : (u : Path) → same_path u u ≡ true
same_path_self (root k) = eq-eqb k k refl
same_path_self (child u c j) = and_from _ _ (same_path_self u) (and_from _ _ (eq-eqb c c refl) (eq-eqb j j refl))

pub same_path_not : (u v : Path) → ¬ (u ≡ v) → same_path u v ≡ false
same_path_not u v n = go (same_path u v) refl
  where
    go : (b : Bool) → same_path u v ≡ b → same_path u v ≡ false
    go true e = absurd (n (same_path_is u v e))
    go false e = e

pub path_cases : (u v : Path) → (u ≡ v) ⊎ (¬ (u ≡ v))
path_cases u v = go (same_path u v) refl
  where
    go : (b : Bool) → same_path u v ≡ b → (u ≡ v) ⊎ (¬ (u ≡ v))
    go true e = inl (same_path_is u v e)
    go false e = inr (λ f. both_ways _ e (subst (λ x. same_path u x ≡ true) f (same_path_self u)))

-- opened unknowns are in the table
pub in_table : (T : Table) (u : Path) (a : ℕ) → opening T u ≡ some a → u ∈ paths T
in_table [] u a e = absurd (none-ne-some a e)
in_table (x ∷ T) u a e = go (same_path x.path u) refl e (in_table T u a)
  where
    go : (b : Bool) → same_path x.path u ≡ b → cond b x.first (opening T u) ≡ some a → (opening T u ≡ some a → u ∈ paths T)
        → u ∈ (x.path ∷ paths T)
    go true s f ih = subst (λ v. v ∈ (x.path ∷ paths T)) (same_path_is x.path u s) first
    go false s f ih = later (ih f)

-- an opened unknown is an entry
pub entry_of : (T : Table) (u : Path) (a : ℕ) → opening T u ≡ some a → (record { path = u; first = some a } ∈ T)
entry_of [] u a e = absurd (none-ne-some a e)
entry_of (x ∷ T) u a e = go (same_path x.path u) refl e (entry_of T u a)
  where
    go : (b : Bool) → same_path x.path u ≡ b → cond b x.first (opening T u) ≡ some a
        → (opening T u ≡ some a → (record { path = u; first = some a } ∈ T)) → (record { path = u; first = some a } ∈ (x ∷ T))
    go true s f ih = subst (λ (y : Entry). y ∈ (x ∷ T)) (λ i. record { path = same_path_is x.path u s i; first = f i }) first
    go false s f ih = later (ih f)

pub entry_in : (T : Table) (x : Entry) → x ∈ T → x.path ∈ paths T
entry_in [] y m = elim m [ ]
entry_in (x ∷ T) y first = first
entry_in (x ∷ T) y (later m) = later (entry_in T y m)

pub opening_entry : (T : Table) (x : Entry) → Distinct (paths T) → x ∈ T → opening T x.path ≡ x.first
opening_entry [] y d m = elim m [ ]
opening_entry (x ∷ T) y d first = ap (λ b. cond b x.first (opening T x.path)) (same_path_self x.path)
opening_entry (x ∷ T) y (n apart∷ d) (later m) =
    ap (λ b. cond b x.first (opening T y.path))
    (same_path_not x.path y.path (λ e. n (subst (λ v. v ∈ paths T) (sym e) (entry_in T y m))))
    ∙ opening_entry T y d m

-- types in the table are declared
pub declared_root : (p : Problem) → Lawful p → (k : ℕ) → k < length p.unknowns → Declared (sig_of p) (get_or p.unknowns k 0)
declared_root p L k l = each_at (Declared (sig_of p)) p.unknowns 0 L.of_unknowns k l

pub declared_at : (p : Problem) (T : Table) (count : ℕ) → Lawful p → Tabled p T count → (u : Path) → u ∈ paths T
    → Declared (sig_of p) (type_of (sig_of p) u)
declared_at p T count L tab (root k) m = declared_root p L k (tab.only_roots k m)
declared_at p T count L tab (child u c j) m =
    let q = tab.parents u c j m in
    (lawful_types p L).1 (type_of (sig_of p) u) c j (declared_at p T count L tab u (in_table T u q.0 q.1)) q.2 q.3

-- paths told apart
abbrev pub IsChild : Path → Type 0
IsChild (root k) = ⊥
IsChild (child u c j) = Unit {0}

pub root_not_child : {k c j : ℕ} {u : Path} → root k ≡ child u c j → ⊥
root_not_child e = subst IsChild (sym e) tt

abbrev pub root_of : Path → ℕ
root_of (root k) = k
root_of (child u c j) = 0

abbrev pub parent_of : Path → Path
parent_of (root k) = root k
parent_of (child u c j) = u

abbrev pub case_in : Path → ℕ
case_in (root k) = 0
case_in (child u c j) = c

abbrev pub place_in : Path → ℕ
place_in (root k) = 0
place_in (child u c j) = j

-- members and distinctness of joined tables
pub ∈_split : (X Y : Table) (u : Path) → u ∈ paths (X ++ Y) → (u ∈ paths X) ⊎ (u ∈ paths Y)
∈_split [] Y u m = inr m
∈_split (x ∷ X) Y u m = go (in_cons m) (∈_split X Y u)
  where
    on : (u ∈ paths X) ⊎ (u ∈ paths Y) → (u ∈ (x.path ∷ paths X)) ⊎ (u ∈ paths Y)
    on (inl q) = inl (later q)
    on (inr q) = inr q

    go : (x.path ≡ u) ⊎ (u ∈ paths (X ++ Y)) → (u ∈ paths (X ++ Y) → (u ∈ paths X) ⊎ (u ∈ paths Y))
        → (u ∈ (x.path ∷ paths X)) ⊎ (u ∈ paths Y)
    go (inl e) ih = inl (subst (λ v. v ∈ (x.path ∷ paths X)) e first)
    go (inr q) ih = on (ih q)

pub ∈_left : (X Y : Table) (u : Path) → u ∈ paths X → u ∈ paths (X ++ Y)
∈_left [] Y u m = elim m [ ]
∈_left (x ∷ X) Y u first = first
∈_left (x ∷ X) Y u (later m) = later (∈_left X Y u m)

pub ∈_right : (X Y : Table) (u : Path) → u ∈ paths Y → u ∈ paths (X ++ Y)
∈_right [] Y u m = m
∈_right (x ∷ X) Y u m = later (∈_right X Y u m)

pub distinct_join : (X Y : Table) → Distinct (paths X) → Distinct (paths Y) → ((u : Path) → u ∈ paths X → u ∈ paths Y → ⊥)
    → Distinct (paths (X ++ Y))
distinct_join [] Y d e f = e
distinct_join (x ∷ X) Y (n apart∷ d) e f =
    (λ m. go (∈_split X Y x.path m)) apart∷ distinct_join X Y d e (λ u m. f u (later m))
  where
    go : (x.path ∈ paths X) ⊎ (x.path ∈ paths Y) → ⊥
    go (inl m) = n m
    go (inr m) = f x.path first m

pub opening_join : (X Y : Table) → ((v : Path) → opening Y v ≡ none) → (v : Path) → opening (X ++ Y) v ≡ opening X v
opening_join [] Y f v = f v
opening_join (x ∷ X) Y f v = ap (cond (same_path x.path v) x.first) (opening_join X Y f v)

pub both_none : (b : Bool) (o : Option ℕ) → o ≡ none → cond b none o ≡ none
both_none true o e = refl
both_none false o e = e

-- the children of u
pub kids_unopened : (u : Path) (c j n : ℕ) (v : Path) → opening (kids_from u c j n) v ≡ none
kids_unopened u c j zero v = refl
kids_unopened u c j (suc n) v = both_none (same_path (child u c j) v) _ (kids_unopened u c (suc j) n v)

pub kids_of_unopened : (u : Path) (c : ℕ) (cs : List (List ℕ)) (v : Path) → opening (kids_of u c cs) v ≡ none
kids_of_unopened u c [] v = refl
kids_of_unopened u c (ts ∷ cs) v =
    opening_join (kids_from u c 0 (length ts)) (kids_of u (suc c) cs) (kids_of_unopened u (suc c) cs) v ∙ kids_unopened u c 0 (length ts) v

pub kids_are : (u : Path) (c j n : ℕ) (v : Path) → v ∈ paths (kids_from u c j n) → (i : ℕ) × (v ≡ child u c (j + i)) × (i < n)
kids_are u c j zero v m = elim m [ ]
kids_are u c j (suc n) v m = go (in_cons m) (kids_are u c (suc j) n v)
  where
    go : (child u c j ≡ v) ⊎ (v ∈ paths (kids_from u c (suc j) n))
        → (v ∈ paths (kids_from u c (suc j) n) → (i : ℕ) × (v ≡ child u c (suc j + i)) × (i < n))
        → (i : ℕ) × (v ≡ child u c (j + i)) × (i < suc n)
    go (inl e) ih = (0, sym e ∙ ap (child u c) (omega arith), omega arith)
    go (inr q) ih =
        let r = ih q in
        let l = r.2 in
        (suc r.0, r.1 ∙ ap (child u c) (omega arith), omega (arith, l))

pub are_kids : (u : Path) (c j n i : ℕ) → i < n → child u c (j + i) ∈ paths (kids_from u c j n)
are_kids u c j zero i l = absurd (omega (arith, l))
are_kids u c j (suc n) zero l = subst (λ k. child u c k ∈ paths (kids_from u c j (suc n))) (omega arith) first
are_kids u c j (suc n) (suc i) l =
    subst (λ k. child u c k ∈ paths (kids_from u c j (suc n))) (omega arith) (later (are_kids u c (suc j) n i (omega (arith, l))))

pub kids_of_are : (u : Path) (c : ℕ) (cs : List (List ℕ)) (v : Path) → v ∈ paths (kids_of u c cs)
    → (i j : ℕ) × (v ≡ child u (c + i) j) × (i < length cs) × (j < length (get_or cs i []))
kids_of_are u c [] v m = elim m [ ]
kids_of_are u c (ts ∷ cs) v m = go (∈_split (kids_from u c 0 (length ts)) (kids_of u (suc c) cs) v m) (kids_of_are u (suc c) cs v)
  where
    go : (v ∈ paths (kids_from u c 0 (length ts))) ⊎ (v ∈ paths (kids_of u (suc c) cs))
        → (v ∈ paths (kids_of u (suc c) cs) → (i j : ℕ) × (v ≡ child u (suc c + i) j) × (i < length cs) × (j < length (get_or cs i [])))
        → (i j : ℕ) × (v ≡ child u (c + i) j) × (i < length (ts ∷ cs)) × (j < length (get_or (ts ∷ cs) i []))
    go (inl q) ih =
        let r = kids_are u c 0 (length ts) v q in
        let l = r.2 in
        (0, 0 + r.0, r.1 ∙ ap (λ x. child u x (0 + r.0)) (omega arith), omega arith, omega (arith, l))
    go (inr q) ih =
        let r = ih q in
        let l = r.3 in
        (suc r.0, r.1, r.2 ∙ ap (λ x. child u x r.1) (omega arith), omega (arith, l), r.4)

pub are_kids_of : (u : Path) (c : ℕ) (cs : List (List ℕ)) (i j : ℕ) → i < length cs → j < length (get_or cs i [])
    → child u (c + i) j ∈ paths (kids_of u c cs)
are_kids_of u c [] i j l m = absurd (omega (arith, l))
are_kids_of u c (ts ∷ cs) zero j l m =
    subst (λ x. child u x j ∈ paths (kids_of u c (ts ∷ cs))) (omega arith)
    (∈_left (kids_from u c 0 (length ts)) (kids_of u (suc c) cs) (child u c j)
    (subst (λ x. child u c x ∈ paths (kids_from u c 0 (length ts))) (omega arith) (are_kids u c 0 (length ts) j m)))
are_kids_of u c (ts ∷ cs) (suc i) j l m =
    subst (λ x. child u x j ∈ paths (kids_of u c (ts ∷ cs))) (omega arith)
    (∈_right (kids_from u c 0 (length ts)) (kids_of u (suc c) cs) (child u (suc c + i) j)
    (are_kids_of u (suc c) cs i j (omega (arith, l)) m))

pub kids_distinct : (u : Path) (c j n : ℕ) → Distinct (paths (kids_from u c j n))
kids_distinct u c j zero = apart[]
kids_distinct u c j (suc n) =
    (λ m. let q = kids_are u c (suc j) n (child u c j) m in let e = ap place_in q.1 in omega (arith, e)) apart∷ kids_distinct u c (suc j) n

pub kids_of_distinct : (u : Path) (c : ℕ) (cs : List (List ℕ)) → Distinct (paths (kids_of u c cs))
kids_of_distinct u c [] = apart[]
kids_of_distinct u c (ts ∷ cs) =
    distinct_join (kids_from u c 0 (length ts)) (kids_of u (suc c) cs) (kids_distinct u c 0 (length ts)) (kids_of_distinct u (suc c) cs)
    (λ v m k.
    let q = kids_are u c 0 (length ts) v m in
    let r = kids_of_are u (suc c) cs v k in
    let e = ap case_in (sym q.1 ∙ r.2) in
    omega (arith, e))

-- u marked as opened
pub marked_paths : (u : Path) (a : ℕ) (T : Table) → paths (marked u a T) ≡ paths T
marked_paths u a [] = refl
marked_paths u a (x ∷ T) = λ i. go (same_path x.path u) i ∷ marked_paths u a T i
  where
    go : (b : Bool) → (cond b (record { path = x.path; first = some a }) x).path ≡ x.path
    go true = refl
    go false = refl

-- what is in a table and is not its first is in the rest
pub not_head : (x : Entry) (u : Path) (T : Table) → same_path x.path u ≡ false → (x.path ≡ u) ⊎ (u ∈ paths T) → u ∈ paths T
not_head x u T s (inl e) = absurd (both_ways _ s (subst (λ v. same_path x.path v ≡ true) e (same_path_self x.path)))
not_head x u T s (inr q) = q

pub marked_at : (u : Path) (a : ℕ) (T : Table) → u ∈ paths T → opening (marked u a T) u ≡ some a
marked_at u a [] m = elim m [ ]
marked_at u a (x ∷ T) m = go (same_path x.path u) refl (marked_at u a T)
  where
    go : (b : Bool) → same_path x.path u ≡ b → (u ∈ paths T → opening (marked u a T) u ≡ some a)
        → opening (cond b (record { path = x.path; first = some a }) x ∷ marked u a T) u ≡ some a
    go true s ih = cond-true _ _ _ s
    go false s ih = cond-false _ _ _ s ∙ ih (not_head x u T s (in_cons m))

pub marked_off : (u : Path) (a : ℕ) (T : Table) (v : Path) → ¬ (v ≡ u) → opening (marked u a T) v ≡ opening T v
marked_off u a [] v n = refl
marked_off u a (x ∷ T) v n = go (same_path x.path u) refl (marked_off u a T v n)
  where
    go : (b : Bool) → same_path x.path u ≡ b → opening (marked u a T) v ≡ opening T v
        → opening (cond b (record { path = x.path; first = some a }) x ∷ marked u a T) v ≡ opening (x ∷ T) v
    go true s ih =
        let off = same_path_not x.path v (λ e. n (sym e ∙ same_path_is x.path u s)) in
        cond-false _ _ _ off ∙ ih ∙ sym (cond-false _ _ _ off)
    go false s ih = ap (cond (same_path x.path v) x.first) ih

-- the start
pub roots_unopened : (k n : ℕ) (v : Path) → opening (roots_from k n) v ≡ none
roots_unopened k zero v = refl
roots_unopened k (suc n) v = both_none (same_path (root k) v) _ (roots_unopened (suc k) n v)

pub roots_are : (k n : ℕ) (v : Path) → v ∈ paths (roots_from k n) → (i : ℕ) × (v ≡ root (k + i)) × (i < n)
roots_are k zero v m = elim m [ ]
roots_are k (suc n) v m = go (in_cons m) (roots_are (suc k) n v)
  where
    go : (root k ≡ v) ⊎ (v ∈ paths (roots_from (suc k) n)) → (v ∈ paths (roots_from (suc k) n) → (i : ℕ) × (v ≡ root (suc k + i)) × (i < n))
        → (i : ℕ) × (v ≡ root (k + i)) × (i < suc n)
    go (inl e) ih = (0, sym e ∙ ap root (omega arith), omega arith)
    go (inr q) ih =
        let r = ih q in
        let l = r.2 in
        (suc r.0, r.1 ∙ ap root (omega arith), omega (arith, l))

pub are_roots : (k n i : ℕ) → i < n → root (k + i) ∈ paths (roots_from k n)
are_roots k zero i l = absurd (omega (arith, l))
are_roots k (suc n) zero l = subst (λ x. root x ∈ paths (roots_from k (suc n))) (omega arith) first
are_roots k (suc n) (suc i) l =
    subst (λ x. root x ∈ paths (roots_from k (suc n))) (omega arith) (later (are_roots (suc k) n i (omega (arith, l))))

pub roots_distinct : (k n : ℕ) → Distinct (paths (roots_from k n))
roots_distinct k zero = apart[]
roots_distinct k (suc n) =
    (λ m. let q = roots_are (suc k) n (root k) m in let e = ap root_of q.1 in omega (arith, e)) apart∷ roots_distinct (suc k) n
