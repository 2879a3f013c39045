-- A model has at most three bytes for each unknown of the problem and three for each of the table: the unknowns in it all stand
-- in the table, and none is in it twice.
use Rattle.std.proofs.Common.{◌≡◌, ℕ, suc, ◌+◌, ◌*◌, ◌<◌, ◌≤◌, ◌⊎◌, inl, inr, List, [], ◌∷◌, ◌++◌, length, get_or, refl, sym, ap, ◌∙◌, subst, arith, length-append}
use Rattle.syntax.specs.Typing.{Sig, arguments}
use Rattle.syntax.specs.Values.{tail}
use Rattle.syntax.specs.Problems.{Problem, sig_of}
use Rattle.judging.specs.Paths.{Path, root, child, Decision, type_of}
use Rattle.judging.specs.Asked.{◌∈◌}
use Rattle.finder.specs.Tables.{Table, paths, Distinct, apart[], ◌apart∷◌, Tabled}
use Rattle.finder.specs.Ways.{Way, decided}
use Rattle.finder.specs.Models.{Partial, open_part, built, Partials, o[], ◌o∷◌, Shows, shows_built, ShowsAll, ◌s∷◌, ModelOf}
use Rattle.finder.proofs.Tables.{in_cons, root_not_child, root_of, place_in}
use Rattle.finder.proofs.Ways.{decided_says}
use Rattle.places.proofs.Openings.{length_paths}
use Rattle.model.specs.Partial.{all_written, encode_from}
use Rattle.models.specs.Models.{parts, written_value, written_model}
use Rattle.models.proofs.Counting.{no_longer, in_either, distinct_both}

-- the unknowns of a partial value that stands at u
abbrev mutual
  pub visit : Path → Partial → List Path
  visit u open_part = u ∷ []
  visit u (built c qs) = u ∷ visits (child u c) qs

  pub visits : (ℕ → Path) → Partials → List Path
  visits place o[] = []
  visits place (q o∷ qs) = visit (place 0) q ++ visits (λ j. place (suc j)) qs

-- x is u, or below it
abbrev Below : Path → Path → Type 0
Below u (root k) = u ≡ root k
Below u (child v c j) = (u ≡ child v c j) ⊎ Below u v

abbrev height : Path → ℕ
height (root k) = 0
height (child u c j) = suc (height u)

below_self : (u : Path) → Below u u
below_self (root k) = refl
below_self (child u c j) = inl refl

below_low : (u x : Path) → Below u x → height u ≤ height x
below_low u (root k) b = let e = ap height b in omega (arith, e)
below_low u (child v c j) (inl e) = let h = ap height e in omega (arith, h)
below_low u (child v c j) (inr b) = let l = below_low u v b in omega (arith, l)

below_parent : (u : Path) (c j : ℕ) (x : Path) → Below (child u c j) x → Below u x
below_parent u c j (root k) b = absurd (root_not_child (sym b))
below_parent u c j (child v d i) (inl e) = inr (subst (Below u) (ap parent_path e) (below_self u))
  where
    parent_path : Path → Path
    parent_path (root k) = u
    parent_path (child w d i) = w
below_parent u c j (child v d i) (inr b) = inr (below_parent u c j v b)

-- no path is below two of these
abbrev Apart : (ℕ → Path) → Type 0
Apart place = (i j : ℕ) (x : Path) → Below (place i) x → Below (place j) x → i ≡ j

roots_apart : Apart root
roots_apart i j (root k) a b = ap root_of (a ∙ sym b)
roots_apart i j (child v c k) (inl a) b = absurd (root_not_child a)
roots_apart i j (child v c k) (inr a) (inl b) = absurd (root_not_child b)
roots_apart i j (child v c k) (inr a) (inr b) = roots_apart i j v a b

children_apart : (u : Path) (c : ℕ) → Apart (child u c)
children_apart u c i j (root k) a b = absurd (root_not_child (sym a))
children_apart u c i j (child v d k) (inl a) (inl b) = ap place_in (a ∙ sym b)
children_apart u c i j (child v d k) (inl a) (inr b) =
    let e = ap height a in
    let l = below_low (child u c j) v b in
    absurd (omega (arith, e, l))
children_apart u c i j (child v d k) (inr a) (inl b) =
    let e = ap height b in
    let l = below_low (child u c i) v a in
    absurd (omega (arith, e, l))
children_apart u c i j (child v d k) (inr a) (inr b) = children_apart u c i j v a b

apart_later : (place : ℕ → Path) → Apart place → Apart (λ j. place (suc j))
apart_later place a i j x b d = let e = a (suc i) (suc j) x b d in omega (arith, e)

mutual
  visit_below : (u : Path) (q : Partial) (x : Path) → x ∈ visit u q → Below u x
  visit_below u open_part x m = elim (in_cons m) [ inl e ↦ subst (Below u) e (below_self u) | inr k ↦ elim k [ ] ]
  visit_below u (built c qs) x m = go (in_cons m) (visits_below (child u c) qs x)
    where
      go : (u ≡ x) ⊎ (x ∈ visits (child u c) qs) → (x ∈ visits (child u c) qs → (j : ℕ) × Below (child u c j) x) → Below u x
      go (inl e) f = subst (Below u) e (below_self u)
      go (inr k) f = let r = f k in below_parent u c r.0 x r.1

  visits_below : (place : ℕ → Path) (qs : Partials) (x : Path) → x ∈ visits place qs → (j : ℕ) × Below (place j) x
  visits_below place o[] x m = elim m [ ]
  visits_below place (q o∷ qs) x m =
      go (in_either (visit (place 0) q) (visits (λ j. place (suc j)) qs) x m) (visit_below (place 0) q x) (visits_below (λ j. place (suc j)) qs x)
    where
      go : (x ∈ visit (place 0) q) ⊎ (x ∈ visits (λ j. place (suc j)) qs) → (x ∈ visit (place 0) q → Below (place 0) x)
          → (x ∈ visits (λ j. place (suc j)) qs → (j : ℕ) × Below (place (suc j)) x) → (j : ℕ) × Below (place j) x
      go (inl l) f g = (0, f l)
      go (inr r) f g = let y = g r in (suc y.0, y.1)

mutual
  visit_distinct : (u : Path) (q : Partial) → Distinct (visit u q)
  visit_distinct u open_part = (λ m. elim m [ ]) apart∷ apart[]
  visit_distinct u (built c qs) =
      (λ m.
      let r = visits_below (child u c) qs u m in
      let l = below_low (child u c r.0) u r.1 in
      absurd (omega (arith, l)))
      apart∷ visits_distinct (child u c) qs (children_apart u c)

  visits_distinct : (place : ℕ → Path) (qs : Partials) → Apart place → Distinct (visits place qs)
  visits_distinct place o[] a = apart[]
  visits_distinct place (q o∷ qs) a =
      distinct_both (visit (place 0) q) (visits (λ j. place (suc j)) qs) (visit_distinct (place 0) q)
      (visits_distinct (λ j. place (suc j)) qs (apart_later place a))
      (λ x k m.
      let r = visits_below (λ j. place (suc j)) qs x m in
      let e = a 0 (suc r.0) x (visit_below (place 0) q x k) r.1 in
      absurd (omega (arith, e)))

-- what is shown of a table's unknown has only unknowns of the table
module _ (p : Problem) (T : Table) (count : ℕ) (w : Way) (tab : Tabled p T count) where
  abbrev sig : Sig
  sig = sig_of p

  abbrev δ : Decision
  δ = decided p T w

  mutual
    visit_in : (u : Path) (q : Partial) → Shows sig δ u (type_of sig u) q → u ∈ paths T → (x : Path) → x ∈ visit u q → x ∈ paths T
    visit_in u open_part s in_T x m = elim (in_cons m) [ inl e ↦ subst (λ y. y ∈ paths T) e in_T | inr k ↦ elim k [ ] ]
    visit_in u (built c qs) (shows_built e s) in_T x m =
        go (in_cons m)
        (visits_in (child u c) (arguments sig (type_of sig u) c) qs s
        (λ j l. let d = decided_says p T w u c e in tab.kids u d.0 c j d.1 d.2 l) (λ j. refl) x)
      where
        go : (u ≡ x) ⊎ (x ∈ visits (child u c) qs) → (x ∈ visits (child u c) qs → x ∈ paths T) → x ∈ paths T
        go (inl e) f = subst (λ y. y ∈ paths T) e in_T
        go (inr k) f = f k

    visits_in : (place : ℕ → Path) (ts : List ℕ) (qs : Partials) → ShowsAll sig δ place ts qs → ((j : ℕ) → j < length ts → place j ∈ paths T)
        → ((j : ℕ) → type_of sig (place j) ≡ get_or ts j 0) → (x : Path) → x ∈ visits place qs → x ∈ paths T
    visits_in place [] o[] s f types x m = elim m [ ]
    visits_in place [] (q o∷ qs) s f types x m = elim s [ ]
    visits_in place (t ∷ ts) o[] s f types x m = elim m [ ]
    visits_in place (t ∷ ts) (q o∷ qs) (s s∷ ss) f types x m =
        go (in_either (visit (place 0) q) (visits (λ j. place (suc j)) qs) x m)
        (visit_in (place 0) q (subst (λ y. Shows sig δ (place 0) y q) (sym (types 0)) s) (f 0 (omega arith)) x)
        (visits_in (λ j. place (suc j)) ts qs ss (λ j l. f (suc j) (omega (arith, l))) (λ j. types (suc j)) x)
      where
        go : (x ∈ visit (place 0) q) ⊎ (x ∈ visits (λ j. place (suc j)) qs) → (x ∈ visit (place 0) q → x ∈ paths T)
            → (x ∈ visits (λ j. place (suc j)) qs → x ∈ paths T) → x ∈ paths T
        go (inl l) f g = f l
        go (inr r) f g = g r

  pub few_visits : (qs : Partials) → ModelOf p δ qs → length (visits root qs) ≤ length T
  few_visits qs s =
      let n = no_longer (visits root qs) (paths T) (visits_distinct root qs roots_apart)
      (visits_in root p.unknowns qs s tab.roots (λ j. refl)) in
      let same = length_paths T in
      omega (arith, n, same)

-- three bytes for each of these
mutual
  value_low : (sg : Sig) (u : Path) (t : ℕ) (q : Partial) → length (written_value sg t q) ≤ 3 * length (visit u q)
  value_low sg u t open_part = omega arith
  value_low sg u t (built c qs) = let l = values_low sg (child u c) (arguments sg t c) qs in omega (arith, l)

  values_low : (sg : Sig) (place : ℕ → Path) (ts : List ℕ) (qs : Partials) → length (all_written sg ts (parts qs)) ≤ 3 * length (visits place qs)
  values_low sg place ts o[] = omega arith
  values_low sg place ts (q o∷ qs) =
      let a = value_low sg (place 0) (get_or ts 0 0) q in
      let b = values_low sg (λ j. place (suc j)) (tail ts) qs in
      let x = length-append (written_value sg (get_or ts 0 0) q) (all_written sg (tail ts) (parts qs)) in
      let y = length-append (visit (place 0) q) (visits (λ j. place (suc j)) qs) in
      omega (arith, a, b, x, y)

records_low : (sg : Sig) (δ : Decision) (place : ℕ → Path) (k : ℕ) (ts : List ℕ) (qs : Partials) → ShowsAll sg δ place ts qs
    → length (encode_from sg k ts (parts qs)) ≤ 3 * length ts + 3 * length (visits place qs)
records_low sg δ place k [] o[] s = omega arith
records_low sg δ place k [] (q o∷ qs) s = elim s [ ]
records_low sg δ place k (t ∷ ts) o[] s = omega arith
records_low sg δ place k (t ∷ ts) (q o∷ qs) (s s∷ ss) =
    let a = value_low sg (place 0) t q in
    let b = records_low sg δ (λ j. place (suc j)) (k + 1) ts qs ss in
    let x = length-append (written_value sg t q) (encode_from sg (k + 1) ts (parts qs)) in
    let y = length-append (visit (place 0) q) (visits (λ j. place (suc j)) qs) in
    omega (arith, a, b, x, y)

pub model_low : (p : Problem) (T : Table) (count : ℕ) (w : Way) (qs : Partials) → Tabled p T count → ModelOf p (decided p T w) qs
    → length (written_model p qs) ≤ 3 * length p.unknowns + 3 * length T
model_low p T count w qs tab s =
    let a = records_low (sig_of p) (decided p T w) root 0 p.unknowns qs s in
    let b = few_visits p T count w tab qs s in
    omega (arith, a, b)
