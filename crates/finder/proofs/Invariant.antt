-- The invariant stands at the start, and opening an unknown and recording a conflict keep it. Assumes nothing.
use Rattle.std.proofs.Common.{◌≡◌, ℕ, ◌+◌, ◌<◌, ◌≤◌, Bool, false, not, ◌&&◌, ◌⊎◌, List, [], ◌∷◌, length, get_or, sym, refl, ap, ◌∙◌, subst, inl, inr, arith}
use mathlib.Core.Option.{none, some}
use Rattle.std.proofs.lemmas.Bool.{and_parts, and_from, not-true, not_from_false}
use Rattle.syntax.specs.Problems.{Problem}
use Rattle.depths.proofs.Finding.{not_none}
use Rattle.judging.specs.Paths.{Path, root, child}
use Rattle.judging.specs.Asked.{◌∈◌, first, later}
use Rattle.finder.specs.Tables.{cases_at, width, arity, Table, paths, opening, first_table, marked, kids_of, opened_at, Distinct, Tabled}
use Rattle.finder.specs.Ways.{Way, OneCase}
use Rattle.finder.specs.Clauses.{all_met, opening_clauses}
use Rattle.finder.specs.Conflicts.{Choice, Conflict, conflict_clause}
use Rattle.finder.specs.Invariant.{says_from, says_all, meets, Explained, Sound}
use Rattle.finder.specs.Claims.{BeginsSound, OpeningKeeps, RecordingKeeps}
use Rattle.finder.proofs.Tables.{same_some, in_cons, path_cases, root_not_child, root_of, parent_of, case_in, place_in, ∈_split, ∈_left, ∈_right, distinct_join, opening_join, kids_of_unopened, kids_of_are, are_kids_of, kids_of_distinct, marked_paths, marked_at, marked_off, roots_unopened, roots_are, are_roots, roots_distinct}
use Rattle.finder.proofs.Clauses.{clauses_one, one_clauses, clause_is}

-- conflicts whose choices are opened in both tables
says_all_kept : (T T' : Table) (w : Way) (xs : List Choice) → ((x : Choice) → x ∈ xs → opening T' x.at ≡ opening T x.at)
    → says_all T' w xs ≡ says_all T w xs
says_all_kept T T' w [] f = refl
says_all_kept T T' w (x ∷ xs) f =
    λ i. says_from w x.con (f x first i) && says_all_kept T T' w xs (λ y m. f y (later m)) i

module _ (p : Problem) (T : Table) (count : ℕ) (u : Path) (tab : Tabled p T count) (inside : u ∈ paths T) (unopened : opening T u ≡ none) where
  abbrev T' : Table
  T' = opened_at p u count T

  abbrev cs : List (List ℕ)
  cs = cases_at p u

  new_at : opening T' u ≡ some count
  new_at = opening_join (marked u count T) (kids_of u 0 cs) (kids_of_unopened u 0 cs) u ∙ marked_at u count T inside

  new_off : (v : Path) → ¬ (v ≡ u) → opening T' v ≡ opening T v
  new_off v n = opening_join (marked u count T) (kids_of u 0 cs) (kids_of_unopened u 0 cs) v ∙ marked_off u count T v n

  other : (v : Path) (a : ℕ) → opening T v ≡ some a → ¬ (v ≡ u)
  other v a e f = not_none unopened (ap (opening T) (sym f) ∙ e)

  kept : (v : Path) (a : ℕ) → opening T v ≡ some a → opening T' v ≡ some a
  kept v a e = new_off v (other v a e) ∙ e

  -- what is opened now: u, or what was opened before
  now_opened : (v : Path) (a : ℕ) → opening T' v ≡ some a → ((v ≡ u) × (a ≡ count)) ⊎ (opening T v ≡ some a)
  now_opened v a e = go (path_cases v u)
    where
      go : (v ≡ u) ⊎ (¬ (v ≡ u)) → ((v ≡ u) × (a ≡ count)) ⊎ (opening T v ≡ some a)
      go (inl f) = inl (f, same_some (ap (opening T') (sym f) ∙ e) new_at)
      go (inr n) = inr (sym (new_off v n) ∙ e)

  old_in : (v : Path) → v ∈ paths T → v ∈ paths T'
  old_in v m = ∈_left (marked u count T) (kids_of u 0 cs) v (subst (λ us. v ∈ us) (sym (marked_paths u count T)) m)

  now_in : (v : Path) → v ∈ paths T' → (v ∈ paths T) ⊎ ((i j : ℕ) × (v ≡ child u i j) × (i < length cs) × (j < length (get_or cs i [])))
  now_in v m = go (∈_split (marked u count T) (kids_of u 0 cs) v m)
    where
      go : (v ∈ paths (marked u count T)) ⊎ (v ∈ paths (kids_of u 0 cs))
          → (v ∈ paths T) ⊎ ((i j : ℕ) × (v ≡ child u i j) × (i < length cs) × (j < length (get_or cs i [])))
      go (inl q) = inl (subst (λ us. v ∈ us) (marked_paths u count T) q)
      go (inr q) =
          let r = kids_of_are u 0 cs v q in
          inr (r.0, r.1, r.2 ∙ ap (λ x. child u x r.1) (omega arith), r.3, r.4)

  new_distinct : Distinct (paths T')
  new_distinct =
      distinct_join (marked u count T) (kids_of u 0 cs) (subst Distinct (sym (marked_paths u count T)) tab.distinct) (kids_of_distinct u 0 cs)
      (λ v m k.
      let r = kids_of_are u 0 cs v k in
      let q = tab.parents u (0 + r.0) r.1 (subst (λ x. x ∈ paths T) r.2 (subst (λ us. v ∈ us) (marked_paths u count T) m)) in
      not_none unopened q.1)

  new_parents : (v : Path) (c j : ℕ) → child v c j ∈ paths T'
      → (a : ℕ) × (opening T' v ≡ some a) × (c < width p v) × (j < arity p v c)
  new_parents v c j m = go (now_in (child v c j) m)
    where
      go : (child v c j ∈ paths T) ⊎ ((i k : ℕ) × (child v c j ≡ child u i k) × (i < length cs) × (k < length (get_or cs i [])))
          → (a : ℕ) × (opening T' v ≡ some a) × (c < width p v) × (j < arity p v c)
      go (inl q) = let r = tab.parents v c j q in (r.0, kept v r.0 r.1, r.2, r.3)
      go (inr r) =
          let same : v ≡ u = ap parent_of r.2 in
          let ci : c ≡ r.0 = ap case_in r.2 in
          let ji : j ≡ r.1 = ap place_in r.2 in (
            count,
            ap (opening T') same ∙ new_at,
            subst (λ x. c < width p x) (sym same) (subst (λ x. x < length cs) (sym ci) r.3),
            subst (λ x. j < arity p x c) (sym same)
                (subst (λ x. j < length (get_or cs x [])) (sym ci) (subst (λ x. x < length (get_or cs r.0 [])) (sym ji) r.4)),
          )

  new_kids : (v : Path) (a c j : ℕ) → opening T' v ≡ some a → c < width p v
      → j < arity p v c → child v c j ∈ paths T'
  new_kids v a c j e l m = go (now_opened v a e)
    where
      go : ((v ≡ u) × (a ≡ count)) ⊎ (opening T v ≡ some a) → child v c j ∈ paths T'
      go (inl q) =
          subst (λ x. child x c j ∈ paths T') (sym q.0)
          (∈_right (marked u count T) (kids_of u 0 cs) (child u c j)
          (subst (λ x. child u x j ∈ paths (kids_of u 0 cs)) (omega arith)
          (are_kids_of u 0 cs c j (subst (λ x. c < width p x) q.0 l)
          (subst (λ x. j < arity p x c) q.0 m))))
      go (inr f) = old_in (child v c j) (tab.kids v a c j f l m)

  new_variables : (v : Path) (a : ℕ) → opening T' v ≡ some a
      → (length p.goals ≤ a) × (a + width p v ≤ count + width p u)
  new_variables v a e = go (now_opened v a e)
    where
      go : ((v ≡ u) × (a ≡ count)) ⊎ (opening T v ≡ some a)
          → (length p.goals ≤ a) × (a + width p v ≤ count + width p u)
      go (inl q) =
          let s = tab.switches in
          let c = q.1 in
          let m : width p v ≡ width p u = ap (λ x. width p x) q.0 in
          (omega (arith, s, c), omega (arith, c, m))
      go (inr f) =
          let q = tab.variables v a f in
          let l = q.1 in
          (q.0, omega (arith, l))

  new_disjoint : (v x : Path) (a b c d : ℕ) → opening T' v ≡ some a → opening T' x ≡ some b
      → c < width p v → d < width p x → a + c ≡ b + d → v ≡ x
  new_disjoint v x a b c d e f l m s = go (now_opened v a e) (now_opened x b f)
    where
      go : ((v ≡ u) × (a ≡ count)) ⊎ (opening T v ≡ some a) → ((x ≡ u) × (b ≡ count)) ⊎ (opening T x ≡ some b) → v ≡ x
      go (inl q) (inl r) = q.0 ∙ sym r.0
      go (inl q) (inr r) =
          let k = (tab.variables x b r).1 in
          let z = q.1 in
          absurd (omega (arith, k, z, m, s))
      go (inr q) (inl r) =
          let k = (tab.variables v a q).1 in
          let z = r.1 in
          absurd (omega (arith, k, z, l, s))
      go (inr q) (inr r) = tab.disjoint v x a b c d q r l m s

  -- What holds of tables is kept, whatever the chooser allows.
  pub opening_tabled : Tabled p T' (count + width p u)
  opening_tabled =
      record {
        distinct = new_distinct;
        switches = (let s = tab.switches in omega (arith, s));
        roots = λ k l. old_in (root k) (tab.roots k l);
        only_roots = new_only_roots;
        parents = new_parents;
        kids = new_kids;
        variables = new_variables;
        disjoint = new_disjoint;
      }
    where
      new_only_roots : (k : ℕ) → root k ∈ paths T' → k < length p.unknowns
      new_only_roots k m = go (now_in (root k) m)
        where
          go : (root k ∈ paths T) ⊎ ((i j : ℕ) × (root k ≡ child u i j) × (i < length cs) × (j < length (get_or cs i []))) → k < length p.unknowns
          go (inl q) = tab.only_roots k q
          go (inr r) = absurd (root_not_child r.2)

  module _ (R : List Conflict) (ways ways' : Way → Bool) (S : Sound p T R count ways)
      (adds : (w : Way) → ways' w ≡ (ways w && all_met w (opening_clauses count (width p u)))) where
    meets_kept : (w : Way) (k : Conflict) → k ∈ R → meets T' w k ≡ meets T w k
    meets_kept w k m =
        ap (λ b. w k.of && b)
        (says_all_kept T T' w k.choices (λ x n. let q = (S.explained k m).opened x n in new_off x.at (other x.at q.0 q.1)))

    opening_sound : Sound p T' R (count + width p u) ways'
    opening_sound =
        record {
          tabled = opening_tabled;
          explained = λ k m.
              let x = S.explained k m in
              record {
                is_goal = x.is_goal;
                under = x.under;
                because = x.because;
                judging = x.judging;
                covers = x.covers;
                opened = λ y n. let q = x.opened y n in (q.0, kept y.at q.0 q.1, q.2);
              };
          allowed = λ w e.
              let q = and_parts (ways w) _ (sym (adds w) ∙ e) in
              let fine = S.allowed w q.0 in
              record {
                one = λ v a o. one_now w fine.one (clauses_one w count (width p u) q.1) v a (now_opened v a o);
                no_conflict = λ k m. meets_kept w k m ∙ fine.no_conflict k m;
              };
          allows = λ w fine.
              adds w
              ∙ and_from _ _
              (S.allows w
              (record { one = λ v a o. fine.one v a (kept v a o); no_conflict = λ k m. sym (meets_kept w k m) ∙ fine.no_conflict k m }))
              (one_clauses w count (width p u) (fine.one u count new_at));
        }
      where
        one_now : (w : Way) → ((v : Path) (a : ℕ) → opening T v ≡ some a → OneCase w a (width p v))
            → OneCase w count (width p u) → (v : Path) (a : ℕ) → ((v ≡ u) × (a ≡ count)) ⊎ (opening T v ≡ some a)
            → OneCase w a (width p v)
        one_now w old new v a (inl q) =
            subst (λ b. OneCase w b (width p v)) (sym q.1)
            (subst (λ x. OneCase w count (width p x)) (sym q.0) new)
        one_now w old new v a (inr o) = old v a o

pub opening_keeps : OpeningKeeps
opening_keeps p T R count ways ways' u S m e adds = opening_sound p T count u S.tabled m e R ways ways' S adds

pub recording_keeps : RecordingKeeps
recording_keeps p T R count ways ways' k S x adds =
    record {
      tabled = S.tabled;
      explained = λ k' m. both k' (in_cons m);
      allowed = λ w e.
          let q = and_parts (ways w) _ (sym (adds w) ∙ e) in
          let fine = S.allowed w q.0 in
          record { one = fine.one; no_conflict = λ k' m. off w fine.no_conflict (not-true _ (sym (clause w) ∙ q.1)) k' (in_cons m) };
      allows = λ w fine.
          adds w
          ∙ and_from _ _ (S.allows w (record { one = fine.one; no_conflict = λ k' m. fine.no_conflict k' (later m) }))
          (clause w ∙ not_from_false _ (fine.no_conflict k first));
    }
  where
    both : (k' : Conflict) → (k ≡ k') ⊎ k' ∈ R → Explained p T k'
    both k' (inl e) = subst (Explained p T) e x
    both k' (inr m) = S.explained k' m

    off : (w : Way) → ((k' : Conflict) → k' ∈ R → meets T w k' ≡ false) → meets T w k ≡ false → (k' : Conflict) → (k ≡ k') ⊎ k' ∈ R
        → meets T w k' ≡ false
    off w old new k' (inl e) = subst (λ y. meets T w y ≡ false) e new
    off w old new k' (inr m) = old k' m

    clause : (w : Way) → all_met w (conflict_clause T k ∷ []) ≡ not (meets T w k)
    clause w = clause_is w T k (λ y m. let q = x.opened y m in (q.0, q.1))

pub begins_sound : BeginsSound
begins_sound p ways all =
    record {
      tabled = record {
        distinct = roots_distinct 0 n;
        switches = omega arith;
        roots = λ k l. subst (λ x. root x ∈ paths (first_table p)) (omega arith) (are_roots 0 n k l);
        only_roots = λ k m. let q = roots_are 0 n (root k) m in let e = ap root_of q.1 in let l = q.2 in omega (arith, e, l);
        parents = λ u c j m. let q = roots_are 0 n (child u c j) m in absurd (root_not_child (sym q.1));
        kids = λ u a c j e l m. not_none (roots_unopened 0 n u) e;
        variables = λ u a e. not_none (roots_unopened 0 n u) e;
        disjoint = λ u v a b c d e f l m s. not_none (roots_unopened 0 n u) e;
      };
      explained = λ k m. elim m [ ];
      allowed = λ w e. record { one = λ u a o. not_none (roots_unopened 0 n u) o; no_conflict = λ k m. elim m [ ] };
      allows = λ w f. all w;
    }
  where
    n : ℕ
    n = length p.unknowns
