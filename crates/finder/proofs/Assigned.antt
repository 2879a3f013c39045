-- From an assignment to a way: what an assignment reaches takes its cases, and what it does not reach takes a case that is
-- easiest to build. No conflict of a goal in force can have all its choices in such a way. Assumes nothing.
use Rattle.std.proofs.Common.{◌≡◌, ℕ, zero, suc, ◌+◌, ◌-◌, ◌<◌, ◌≤◌, Bool, true, false, cond, ◌&&◌, ◌||◌, eqb, ltb, ◌⊎◌, List, [], ◌∷◌, length, get_or, sym, refl, ap, ◌∙◌, subst, inl, inr, arith}
use mathlib.Core.Option
use mathlib.Core.Option.{Option, none, some, none-ne-some, some-injective}
use Rattle.std.proofs.lemmas.Bool.{both_ways, cases_Bool, and_parts, and_from, or_cases, or_left, or_right, eq-eqb, eqb-true, lt-ltb, le-ltb, ltb-true, leb-true, cond-true, cond-false, false≢true}
use Rattle.chooser.specs.Ways.{lit, every}
use Rattle.syntax.specs.Typing.{Sig, constructors, arguments}
use Rattle.syntax.specs.Values.{Value, Values, build, v[], ◌v∷◌, OfType, of_type, OfTypes, of[], ◌of∷◌, depth, deepest}
use Rattle.syntax.specs.Problems.{Problem, sig_of, Lawful}
use Rattle.depths.specs.Laws.{Depths}
use Rattle.judging.specs.Paths.{Path, root, child, type_of}
use Rattle.judging.specs.Asked.{◌∈◌, first, later}
use Rattle.judging.specs.Assignments.{nth, argument, part, constructor_of, choice, Assigns}
use Rattle.judging.proofs.Closed.{goal_closed}
use Rattle.judging.proofs.Truth.{false_forbids}
use Rattle.finder.specs.Levels.{Measures, measured, level, any_deeper, Within}
use Rattle.finder.specs.Tables.{Entry, Table, paths, same_path, opening, width, arity, Tabled}
use Rattle.finder.specs.Ways.{Way, OneCase}
use Rattle.finder.specs.Conflicts.{Conflict}
use Rattle.finder.specs.Asking.{switches, asked}
use Rattle.finder.specs.Models.{Solves}
use Rattle.finder.specs.Invariant.{says_all, meets, Fine, Explained}
use Rattle.finder.specs.Claims.{NoneStands, NeverStands, ShallowStands}
use Rattle.finder.proofs.Tables.{same_some, same_path_is, in_table, opening_entry, declared_at}
use Rattle.finder.proofs.Clauses.{says_opened}
use Rattle.finder.proofs.Conflicts.{says_each}
use Rattle.finder.proofs.Asking.{Denied, asked_holds, switches_hold}
use Rattle.finder.proofs.Models.{argument_same}

argument_some : (c j : ℕ) (o : Option Value) (v : Value) → argument c j o ≡ some v
    → (vs : Values) × (o ≡ some (build c vs)) × (nth vs j ≡ some v)
argument_some c j none v e = absurd (none-ne-some v e)
argument_some c j (some (build d vs)) v e = go (eqb d c) refl e
  where
    go : (b : Bool) → eqb d c ≡ b → cond b (nth vs j) none ≡ some v
        → (vs' : Values) × (some (build d vs) ≡ some (build c vs')) × (nth vs' j ≡ some v)
    go true q f = let same : d ≡ c = eqb-true d c q in (vs, (λ i. some (build (same i) vs)), f)
    go false q f = absurd (none-ne-some v f)

constructor_some : (o : Option Value) (c : ℕ) → constructor_of o ≡ some c → (vs : Values) × (o ≡ some (build c vs))
constructor_some none c e = absurd (none-ne-some c e)
constructor_some (some (build d vs)) c e = (vs, λ i. some (build (some-injective d c e i) vs))

-- the values of a typed list
nth_typed : (p : Problem) (ts : List ℕ) (vs : Values) (j : ℕ) (v : Value) → OfTypes (sig_of p) ts vs → nth vs j ≡ some v → OfType (sig_of p) (get_or ts j 0) v
nth_typed p ts v[] j v t e = absurd (none-ne-some v e)
nth_typed p [] (x v∷ vs) j v t e = elim t [ ]
nth_typed p (t ∷ ts) (x v∷ vs) zero v (q of∷ qs) e = subst (OfType (sig_of p) t) (some-injective x v e) q
nth_typed p (t ∷ ts) (x v∷ vs) (suc j) v (q of∷ qs) e = nth_typed p ts vs j v qs e

nth_deep : (p : Problem) (ts : List ℕ) (vs : Values) (j : ℕ) (v : Value) → OfTypes (sig_of p) ts vs → nth vs j ≡ some v
    → depth (sig_of p) (get_or ts j 0) v ≤ deepest (sig_of p) ts vs
nth_deep p ts v[] j v t e = absurd (none-ne-some v e)
nth_deep p [] (x v∷ vs) j v t e = elim t [ ]
nth_deep p (t ∷ ts) (x v∷ vs) zero v (q of∷ qs) e =
    let same : depth (sig_of p) t x ≡ depth (sig_of p) t v = ap (depth (sig_of p) t) (some-injective x v e) in
    omega (arith, same)
nth_deep p (t ∷ ts) (x v∷ vs) (suc j) v (q of∷ qs) e =
    let ih = nth_deep p ts vs j v qs e in
    omega (arith, ih)

nth_some : (p : Problem) (ts : List ℕ) (vs : Values) (j : ℕ) → OfTypes (sig_of p) ts vs → j < length ts → (v : Value) × (nth vs j ≡ some v)
nth_some p [] v[] j of[] l = absurd (omega (arith, l))
nth_some p [] (x v∷ vs) j t l = elim t [ ]
nth_some p (t ∷ ts) v[] j q l = elim q [ ]
nth_some p (t ∷ ts) (x v∷ vs) zero (q of∷ qs) l = (x, refl)
nth_some p (t ∷ ts) (x v∷ vs) (suc j) (q of∷ qs) l = nth_some p ts vs j qs (omega (arith, l))

built : {sig : Sig} {t c : ℕ} {vs : Values} → OfType sig t (build c vs) → (c < constructors sig t) × OfTypes sig (arguments sig t c) vs
built (of_type l q) = (l, q)

-- what stands at a path has the path's type, and no more depth than is left there
module _ (p : Problem) (α : Values) (as' : Assigns p α) where
  part_typed : (u : Path) (v : Value) → part α u ≡ some v → OfType (sig_of p) (type_of (sig_of p) u) v
  part_typed (root k) v e = nth_typed p p.unknowns α k v as' e
  part_typed (child u c j) v e =
      let q = argument_some c j (part α u) v e in
      nth_typed p (arguments (sig_of p) (type_of (sig_of p) u) c) q.0 j v (built (part_typed u (build c q.0) q.1)).1 q.2

  part_deep : (D : Depths (sig_of p)) (n : ℕ) → Within p n α → (u : Path) (v : Value) → part α u ≡ some v
      → level p (measured D) u + depth (sig_of p) (type_of (sig_of p) u) v ≤ n + 1
  part_deep D n r (root k) v e =
      let d = nth_deep p p.unknowns α k v as' e in
      omega (arith, d, r)
  part_deep D n r (child u c j) v e =
      let q = argument_some c j (part α u) v e in
      let ih = part_deep D n r u (build c q.0) q.1 in
      let a = D.adds (type_of (sig_of p) u) c q.0 in
      let d = nth_deep p (arguments (sig_of p) (type_of (sig_of p) u) c) q.0 j v (built (part_typed u (build c q.0) q.1)).1 q.2 in
      omega (arith, ih, a, d)

  choice_is : (u : Path) (c : ℕ) → choice α u ≡ some c → c < width p u
  choice_is u c e =
      let q = constructor_some (part α u) c e in
      (built (part_typed u (build c q.0) q.1)).0

  -- a child of what α chooses is reached
  reached_below : (u : Path) (c j : ℕ) → choice α u ≡ some c → j < arity p u c
      → (v : Value) × (part α (child u c j) ≡ some v)
  reached_below u c j e l =
      let q = constructor_some (part α u) c e in
      let r = nth_some p (arguments (sig_of p) (type_of (sig_of p) u) c) q.0 j (built (part_typed u (build c q.0) q.1)).1 l in
      (r.0, argument_same c j q.0 (part α u) q.1 ∙ r.1)

head_at : (o : Option Value) (v : Value) → o ≡ some v → (c : ℕ) × (constructor_of o ≡ some c)
head_at o (build c vs) e = (c, ap constructor_of e)

-- The way of an assignment: the switches in force; α's case for what α reaches, an easiest case for the rest.
module _ (p : Problem) (D : Depths (sig_of p)) (force : ℕ → Bool) (α : Values) where
  abbrev pub pick : Path → ℕ
  pick u = Option.get_or (choice α u) (D.easiest (type_of (sig_of p) u))

  abbrev pub picks : Option ℕ → Path → ℕ → Bool
  picks none u v = false
  picks (some a) u v = eqb v (a + pick u)

  abbrev pub picked : Table → ℕ → Bool
  picked [] v = false
  picked (x ∷ T) v = picks x.first x.path v || picked T v

  abbrev pub way_of : Table → Way
  way_of T v = cond (ltb v (length p.goals)) (force v) (picked T v)

  pick_reached : (u : Path) (c : ℕ) → choice α u ≡ some c → pick u ≡ c
  pick_reached u c e = ap (λ o. Option.get_or o (D.easiest (type_of (sig_of p) u))) e

  picked_here : (T : Table) (u : Path) (a : ℕ) → opening T u ≡ some a → picked T (a + pick u) ≡ true
  picked_here [] u a e = absurd (none-ne-some a e)
  picked_here (x ∷ T) u a e = go (same_path x.path u) refl e (picked_here T u a)
    where
      go : (b : Bool) → same_path x.path u ≡ b → cond b x.first (opening T u) ≡ some a
          → (opening T u ≡ some a → picked T (a + pick u) ≡ true) → (picks x.first x.path (a + pick u) || picked T (a + pick u)) ≡ true
      go true s f ih =
          or_left _ _
          (ap (λ o. picks o x.path (a + pick u)) f
          ∙ subst (λ v. eqb (a + pick u) (a + pick v) ≡ true) (sym (same_path_is x.path u s)) (eq-eqb (a + pick u) (a + pick u) refl))
      go false s f ih = or_right _ _ (ih f)

  picked_from : (T : Table) (v : ℕ) → picked T v ≡ true → (x : Entry) × (a : ℕ) × (x ∈ T) × (x.first ≡ some a) × (v ≡ a + pick x.path)
  picked_from [] v e = absurd (false≢true e)
  picked_from (x ∷ T) v e = go (or_cases _ _ e) (picked_from T v)
    where
      this : (o : Option ℕ) → x.first ≡ o → picks o x.path v ≡ true
          → (y : Entry) × (a : ℕ) × (y ∈ (x ∷ T)) × (y.first ≡ some a) × (v ≡ a + pick y.path)
      this none s f = absurd (false≢true f)
      this (some a) s f = (x, a, first, s, eqb-true v (a + pick x.path) f)

      go : (picks x.first x.path v ≡ true) ⊎ (picked T v ≡ true)
          → (picked T v ≡ true → (y : Entry) × (a : ℕ) × (y ∈ T) × (y.first ≡ some a) × (v ≡ a + pick y.path))
          → (y : Entry) × (a : ℕ) × (y ∈ (x ∷ T)) × (y.first ≡ some a) × (v ≡ a + pick y.path)
      go (inl f) ih = this x.first refl f
      go (inr f) ih = let q = ih f in (q.0, q.1, later q.2, q.3, q.4)

  module _ (T : Table) (count : ℕ) (L : Lawful p) (tab : Tabled p T count) (as' : Assigns p α) where
    pick_cases : (u : Path) → ((c : ℕ) × (choice α u ≡ some c)) ⊎ ((choice α u ≡ none) × (pick u ≡ D.easiest (type_of (sig_of p) u)))
    pick_cases u = go (choice α u) refl
      where
        go : (o : Option ℕ) → choice α u ≡ o → ((c : ℕ) × (choice α u ≡ some c)) ⊎ ((choice α u ≡ none) × (pick u ≡ D.easiest (type_of (sig_of p) u)))
        go none e = inr (e, ap (λ o. Option.get_or o (D.easiest (type_of (sig_of p) u))) e)
        go (some c) e = inl (c, e)

    pick_is : (u : Path) → u ∈ paths T → pick u < width p u
    pick_is u m = go (pick_cases u)
      where
        go : ((c : ℕ) × (choice α u ≡ some c)) ⊎ ((choice α u ≡ none) × (pick u ≡ D.easiest (type_of (sig_of p) u))) → pick u < width p u
        go (inl q) = subst (λ c. c < width p u) (sym (pick_reached u q.0 q.1)) (choice_is p α as' u q.0 q.1)
        go (inr q) = subst (λ c. c < width p u) (sym q.1) (D.easiest_is (type_of (sig_of p) u) (declared_at p T count L tab u m))

    at_switch : (g : ℕ) → g < length p.goals → way_of T g ≡ force g
    at_switch g l = cond-true _ _ _ (lt-ltb g (length p.goals) l)

    at_case : (u : Path) (a c : ℕ) → opening T u ≡ some a → way_of T (a + c) ≡ picked T (a + c)
    at_case u a c e =
        let l = (tab.variables u a e).0 in
        cond-false _ _ _ (le-ltb (a + c) (length p.goals) (omega (arith, l)))

    only_pick : (u : Path) (a d : ℕ) → opening T u ≡ some a → d < width p u → way_of T (a + d) ≡ true → d ≡ pick u
    only_pick u a d e l s =
        let q = picked_from T (a + d) (sym (at_case u a d e) ∙ s) in
        let v : Path = q.0.path in
        let b : ℕ = q.1 in
        let f : opening T v ≡ some b = opening_entry T q.0 tab.distinct q.2 ∙ q.3 in
        let same : u ≡ v = tab.disjoint u v a b d (pick v) e f l (pick_is v (in_table T v b f)) q.4 in
        let ab : a ≡ b = same_some e (ap (opening T) same ∙ f) in
        let pp : pick u ≡ pick v = ap pick same in
        let s4 = q.4 in
        omega (arith, ab, pp, s4)

    one_case : (u : Path) (a : ℕ) → opening T u ≡ some a → OneCase (way_of T) a (width p u)
    one_case u a e =
        record {
          case = pick u;
          is_case = pick_is u (in_table T u a e);
          chosen = at_case u a (pick u) e ∙ picked_here T u a e;
          only = λ d l s. only_pick u a d e l s;
        }

    -- a conflict that the way meets has only choices of α
    follows : (k : Conflict) (x : Explained p T k) → says_all T (way_of T) k.choices ≡ true
        → (u : Path) → u ∈ x.because → choice α u ≡ x.under u
    follows k x all (root i) m =
        let q = x.covers (root i) m in
        let o = x.opened _ q.2 in
        let says_so = sym (says_opened T (way_of T) _ o.0 o.1) ∙ says_each T (way_of T) k.choices all _ q.2 in
        let same : q.0 ≡ pick (root i) = only_pick (root i) o.0 q.0 o.1 o.2 says_so in
        let r = nth_some p p.unknowns α i as' (tab.only_roots i (in_table T (root i) o.0 o.1)) in
        let h = head_at (part α (root i)) r.0 r.1 in
        h.1 ∙ ap some (sym (pick_reached (root i) h.0 h.1) ∙ sym same) ∙ sym q.1
    follows k x all (child u d j) m =
        let q = x.covers (child u d j) m in
        let o = x.opened _ q.2 in
        let says_so = sym (says_opened T (way_of T) _ o.0 o.1) ∙ says_each T (way_of T) k.choices all _ q.2 in
        let same : q.0 ≡ pick (child u d j) = only_pick (child u d j) o.0 q.0 o.1 o.2 says_so in
        let g = x.judging in
        let up = goal_closed p x.under _ g.steps g.left 0 g.args x.because g.judged u d j m in
        let above : choice α u ≡ some d = follows k x all u up.0 ∙ up.1 in
        let r = reached_below p α as' u d j above (tab.parents u d j (in_table T (child u d j) o.0 o.1)).3 in
        let h = head_at (part α (child u d j)) r.0 r.1 in
        h.1 ∙ ap some (sym (pick_reached (child u d j) h.0 h.1) ∙ sym same) ∙ sym q.1

    no_conflict : (k : Conflict) → Explained p T k → Solves p force α → meets T (way_of T) k ≡ false
    no_conflict k x sol = go (cases_Bool (meets T (way_of T) k))
      where
        go : (meets T (way_of T) k ≡ true) ⊎ (meets T (way_of T) k ≡ false) → meets T (way_of T) k ≡ false
        go (inl e) =
            let q = and_parts (way_of T k.of) (says_all T (way_of T) k.choices) e in
            let in_force : force k.of ≡ true = sym (at_switch k.of x.is_goal) ∙ q.0 in
            absurd (false_forbids p x.under k.of x.because x.judging α
            (λ u c m f. follows k x q.1 u m ∙ f) (sol k.of x.is_goal in_force))
        go (inr e) = e

    way_fine : (R : List Conflict) → ((k : Conflict) → k ∈ R → Explained p T k) → Solves p force α → Fine p T R (way_of T)
    way_fine R ex sol = record { one = one_case; no_conflict = λ k m. no_conflict k (ex k m) sol }

    way_denied : (n : ℕ) → Within p n α → Denied p (measured D) T n (way_of T)
    way_denied n r u a c e l fit deep = go (cases_Bool (way_of T (a + c)))
      where
        bad : ((d : ℕ) × (choice α u ≡ some d)) ⊎ ((choice α u ≡ none) × (pick u ≡ D.easiest (type_of (sig_of p) u))) → c ≡ pick u → ⊥
        bad (inl q) same =
            let h = constructor_some (part α u) q.0 q.1 in
            let dep = part_deep p α as' D n r u (build q.0 h.0) h.1 in
            let nd = D.needs (type_of (sig_of p) u) q.0 h.0 (part_typed p α as' u (build q.0 h.0) h.1) in
            let cs : D.need (type_of (sig_of p) u) c ≡ D.need (type_of (sig_of p) u) q.0 = ap (D.need (type_of (sig_of p) u)) (same ∙ pick_reached u q.0 q.1) in
            omega (arith, dep, nd, cs, deep)
        bad (inr q) same =
            let en = D.easiest_needs (type_of (sig_of p) u) (declared_at p T count L tab u (in_table T u a e)) in
            let cs : D.need (type_of (sig_of p) u) c ≡ D.need (type_of (sig_of p) u) (D.easiest (type_of (sig_of p) u)) = ap (D.need (type_of (sig_of p) u)) (same ∙ q.1) in
            let low = leb-true (level p (measured D) u + D.least (type_of (sig_of p) u) - 1) n fit in
            omega (arith, en, cs, deep, low)

        go : (way_of T (a + c) ≡ true) ⊎ (way_of T (a + c) ≡ false) → way_of T (a + c) ≡ false
        go (inl s) = absurd (bad (pick_cases u) (only_pick u a c e l s))
        go (inr s) = s

pub none_stands_lem : NoneStands
none_stands_lem p D T R count n ways force L S none' α as' r sol =
    let w : Way = way_of p D force α T in
    both_ways (ways w && every (lit w) (asked p (measured D) force n T)) (none' w)
    (and_from _ _ (S.allows w (way_fine p D force α T count L S.tabled as' R S.explained sol))
    (asked_holds w p (measured D) n force T S.tabled.distinct
    (λ g l f. at_switch p D force α T count L S.tabled as' g l ∙ f) (way_denied p D force α T count L S.tabled as' n r)))

pub never_stands_lem : NeverStands
never_stands_lem p D T R count ways force L S none' α as' sol =
    let w : Way = way_of p D force α T in
    both_ways (ways w && every (lit w) (switches p force)) (none' w)
    (and_from _ _ (S.allows w (way_fine p D force α T count L S.tabled as' R S.explained sol))
    (switches_hold w p force (λ g l f. at_switch p D force α T count L S.tabled as' g l ∙ f)))

-- some problem unknown's type is too deep
deeper : (d : Measures) (n : ℕ) (ts : List ℕ) → any_deeper d n ts ≡ true → (k : ℕ) × (k < length ts) × (n < d.least (get_or ts k 0))
deeper d n [] e = absurd (false≢true e)
deeper d n (t ∷ ts) e = go (or_cases _ _ e) (deeper d n ts)
  where
    go : (ltb n (d.least t) ≡ true) ⊎ (any_deeper d n ts ≡ true)
        → (any_deeper d n ts ≡ true → (k : ℕ) × (k < length ts) × (n < d.least (get_or ts k 0)))
        → (k : ℕ) × (k < length (t ∷ ts)) × (n < d.least (get_or (t ∷ ts) k 0))
    go (inl f) ih = (0, omega arith, ltb-true _ _ f)
    go (inr f) ih = let q = ih f in let l = q.1 in (suc q.0, omega (arith, l), q.2)

pub shallow_stands_lem : ShallowStands
shallow_stands_lem p D n L e α as' r =
    let k = deeper (measured D) n p.unknowns e in
    let q = nth_some p p.unknowns α k.0 as' k.1 in
    go k.0 k.1 k.2 q.0 (nth_typed p p.unknowns α k.0 q.0 as' q.1) (nth_deep p p.unknowns α k.0 q.0 as' q.1)
  where
    go : (k : ℕ) → k < length p.unknowns → n < D.least (get_or p.unknowns k 0) → (v : Value) → OfType (sig_of p) (get_or p.unknowns k 0) v
        → depth (sig_of p) (get_or p.unknowns k 0) v ≤ deepest (sig_of p) p.unknowns α → ⊥
    go k l deep (build c vs) q d =
        let a = D.needs (get_or p.unknowns k 0) c vs q in
        let b = D.least_first (get_or p.unknowns k 0) c (built q).0 in
        omega (arith, a, b, d, r, deep)
