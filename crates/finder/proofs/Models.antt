-- From a way to assignments: the model of a way under which every goal in force is true. A problem unknown fits n; if an unknown
-- fits and its case is not denied, its children fit; so all that is reached fits, and what is open can be filled. Assumes nothing.
use Rattle.std.proofs.Common.{◌≡◌, ℕ, zero, suc, ◌+◌, ◌-◌, ◌<◌, ◌≤◌, true, false, ◌⊎◌, List, [], ◌∷◌, length, get_or, sym, refl, ap, ◌∙◌, subst, inl, inr, arith}
use mathlib.Core.Option.{Option, none, some, none-ne-some, some-injective}
use Rattle.std.proofs.lemmas.Bool.{both_ways, cases_lt, or_parts, eq-eqb, cond-true, le-leb, ltb-false}
use Rattle.syntax.specs.Typing.{Sig, Declared, arguments}
use Rattle.syntax.specs.Values.{Value, Values, build, v[], ◌v∷◌, OfType, of_type, OfTypes, of[], ◌of∷◌, depth, deepest}
use Rattle.syntax.specs.Problems.{Problem, sig_of, Lawful}
use Rattle.depths.proofs.Finding.{not_none}
use Rattle.depths.specs.Laws.{Depths}
use Rattle.depths.proofs.Lawfulness.{lawful_types}
use Rattle.judging.specs.Held.{goal}
use Rattle.judging.specs.Judging.{judge}
use Rattle.judging.specs.Paths.{Path, root, child, Decision, type_of, under}
use Rattle.judging.specs.Asked.{◌∈◌}
use Rattle.judging.specs.Reached.{Reached, Exists}
use Rattle.judging.specs.Assignments.{nth, argument, part, constructor_of, choice}
use Rattle.judging.proofs.Asked.{only_asked}
use Rattle.judging.proofs.Reached.{asked_paths}
use Rattle.judging.proofs.Truth.{true_allows}
use Rattle.finder.specs.Levels.{Measures, measured, level, any_deeper}
use Rattle.finder.specs.Tables.{Table, paths, opening, width, Tabled}
use Rattle.finder.specs.Ways.{Way, decided}
use Rattle.finder.specs.Models.{Partial, open_part, built, Partials, o[], ◌o∷◌, Shows, shows_open, shows_built, ShowsAll, s[], ◌s∷◌, ModelOf, Completes, anything, as_built, CompletesAll, c[], ◌c∷◌, Filled, nth_partial, argument_partial, part_of, head_of, replayed}
use Rattle.finder.specs.Claims.{ModelsStand}
use Rattle.finder.proofs.Tables.{same_some, in_table, declared_root}
use Rattle.finder.proofs.Ways.{decided_says}
use Rattle.finder.proofs.Asking.{Denied, asked_denied}

-- what completes partial values has their types
mutual
  completes_typed : {sig : Sig} {t : ℕ} {q : Partial} {v : Value} → Completes sig t q v → OfType sig t v
  completes_typed (anything o) = o
  completes_typed (as_built l c) = of_type l (completes_typeds c)

  completes_typeds : {sig : Sig} {ts : List ℕ} {qs : Partials} {vs : Values} → CompletesAll sig ts qs vs → OfTypes sig ts vs
  completes_typeds c[] = of[]
  completes_typeds (c c∷ cs) = completes_typed c of∷ completes_typeds cs

-- at an index of a row of partial values
module _ (sig : Sig) (δ : Decision) where
  shown_at : (place : ℕ → Path) (ts : List ℕ) (qs : Partials) → ShowsAll sig δ place ts qs → (j : ℕ) → j < length ts
      → (q : Partial) × (nth_partial qs j ≡ some q) × Shows sig δ (place j) (get_or ts j 0) q
  shown_at place [] qs s j l = absurd (omega (arith, l))
  shown_at place (t ∷ ts) o[] s j l = elim s [ ]
  shown_at place (t ∷ ts) (q o∷ qs) (s s∷ ss) zero l = (q, refl, s)
  shown_at place (t ∷ ts) (q o∷ qs) (s s∷ ss) (suc j) l = shown_at (λ i. place (suc i)) ts qs ss j (omega (arith, l))

  completed_at : (ts : List ℕ) (qs : Partials) (vs : Values) → CompletesAll sig ts qs vs → (j : ℕ) (q : Partial) → nth_partial qs j ≡ some q
      → (v : Value) × (nth vs j ≡ some v) × Completes sig (get_or ts j 0) q v
  completed_at [] o[] v[] c[] j q e = absurd (none-ne-some q e)
  completed_at [] (r o∷ qs) vs c j q e = elim c [ ]
  completed_at [] o[] (v v∷ vs) c j q e = elim c [ ]
  completed_at (t ∷ ts) o[] vs c j q e = elim c [ ]
  completed_at (t ∷ ts) (r o∷ qs) v[] c j q e = elim c [ ]
  completed_at (t ∷ ts) (r o∷ qs) (v v∷ vs) (c c∷ cs) zero q e =
      (v, refl, subst (λ x. Completes sig t x v) (some-injective r q e) c)
  completed_at (t ∷ ts) (r o∷ qs) (v v∷ vs) (c c∷ cs) (suc j) q e = completed_at ts qs vs cs j q e

  -- where δ decides, the partial value has that constructor
  shows_case : (u : Path) (t c : ℕ) (q : Partial) → Shows sig δ u t q → δ u ≡ some c
      → (qs : Partials) × (q ≡ built c qs) × ShowsAll sig δ (child u c) (arguments sig t c) qs
  shows_case u t c open_part (shows_open e) f = not_none e f
  shows_case u t c (built d qs) (shows_built e s) f =
      let same : d ≡ c = same_some e f in
      (qs, (λ i. built (same i) qs), subst (λ x. ShowsAll sig δ (child u x) (arguments sig t x) qs) same s)

  shows_head : (u : Path) (t : ℕ) (q : Partial) → Shows sig δ u t q → head_of (some q) ≡ δ u
  shows_head u t open_part (shows_open e) = sym e
  shows_head u t (built c qs) (shows_built e s) = sym e

completes_case : {sig : Sig} {t c : ℕ} {qs : Partials} {v : Value} → Completes sig t (built c qs) v
    → (vs : Values) × (v ≡ build c vs) × CompletesAll sig (arguments sig t c) qs vs
completes_case (as_built {vs = vs} l c) = (vs, refl, c)

pub argument_same : (c j : ℕ) (vs : Values) (o : Option Value) → o ≡ some (build c vs) → argument c j o ≡ nth vs j
argument_same c j vs o e = ap (argument c j) e ∙ cond-true _ _ _ (eq-eqb c c refl)

pub partial_same : (c j : ℕ) (qs : Partials) (o : Option Partial) → o ≡ some (built c qs) → argument_partial c j o ≡ nth_partial qs j
partial_same c j qs o e = ap (argument_partial c j) e ∙ cond-true _ _ _ (eq-eqb c c refl)

-- what is reached stands in the model, and in whatever completes it
module _ (p : Problem) (δ : Decision) (qs : Partials) (shown : ModelOf p δ qs) where
  stands : (u : Path) → Reached δ u → Exists (sig_of p) u → (q : Partial) × (part_of qs u ≡ some q) × Shows (sig_of p) δ u (type_of (sig_of p) u) q
  stands (root k) r x = shown_at (sig_of p) δ root p.unknowns qs shown k x
  stands (child u c j) r x =
      let s = stands u r.1 x.1 in
      let d = shows_case (sig_of p) δ u (type_of (sig_of p) u) c s.0 s.2 r.0 in
      let y = shown_at (sig_of p) δ (child u c) (arguments (sig_of p) (type_of (sig_of p) u) c) d.0 d.2 j x.0 in
      (y.0, partial_same c j d.0 (part_of qs u) (s.1 ∙ ap some d.1) ∙ y.1, y.2)

  completed : (α : Values) → Filled p qs α → (u : Path) → Reached δ u → (x : Exists (sig_of p) u) → (q : Partial) → part_of qs u ≡ some q
      → (v : Value) × (part α u ≡ some v) × Completes (sig_of p) (type_of (sig_of p) u) q v
  completed α f (root k) r x q e = completed_at (sig_of p) δ p.unknowns qs α f k q e
  completed α f (child u c j) r x q e =
      let s = stands u r.1 x.1 in
      let d = shows_case (sig_of p) δ u (type_of (sig_of p) u) c s.0 s.2 r.0 in
      let v = completed α f u r.1 x.1 (built c d.0) (s.1 ∙ ap some d.1) in
      let b = completes_case v.2 in
      let y = completed_at (sig_of p) δ (arguments (sig_of p) (type_of (sig_of p) u) c) d.0 b.0 b.2 j q
      (sym (partial_same c j d.0 (part_of qs u) (s.1 ∙ ap some d.1)) ∙ e) in
      (y.0, argument_same c j b.0 (part α u) (v.1 ∙ ap some b.1) ∙ y.1, y.2)

  chooses : (α : Values) → Filled p qs α → (u : Path) (c : ℕ) → Reached δ u → Exists (sig_of p) u → δ u ≡ some c → choice α u ≡ some c
  chooses α f u c r x e =
      let s = stands u r x in
      let d = shows_case (sig_of p) δ u (type_of (sig_of p) u) c s.0 s.2 e in
      let v = completed α f u r x (built c d.0) (s.1 ∙ ap some d.1) in
      let b = completes_case v.2 in
      ap constructor_of (v.1 ∙ ap some b.1)

  replays_same : Lawful p → (g s : ℕ) → judge p (under p (replayed qs)) (goal p g) s ≡ judge p (under p δ) (goal p g) s
  replays_same L g s =
      only_asked Path p L (under p δ) (under p (replayed qs))
      (record {
        at_roots = λ k l. refl;
        at_kids = λ u c a e. refl;
        at_chosen = λ u a.
            let r = (asked_paths p δ u).0 a in
            let q = stands u r.0 r.1 in
            ap head_of q.1 ∙ shows_head (sig_of p) δ u (type_of (sig_of p) u) q.0 q.2;
      }) g s

table_exists : (p : Problem) (T : Table) (count : ℕ) → Tabled p T count → (u : Path) → u ∈ paths T → Exists (sig_of p) u
table_exists p T count tab (root k) m = tab.only_roots k m
table_exists p T count tab (child u c j) m =
    let q = tab.parents u c j m in
    (q.3, table_exists p T count tab u (in_table T u q.0 q.1))

-- a partial value of u, and a value that completes it and reaches no deeper than n from the level `base`
record Piece (p : Problem) (δ : Decision) (n base : ℕ) (u : Path) (t : ℕ) : Type 0 where
  partial : Partial
  shows : Shows (sig_of p) δ u t partial
  value : Value
  completes : Completes (sig_of p) t partial value
  low : base + depth (sig_of p) t value ≤ n + 1

record Pieces (p : Problem) (δ : Decision) (n base : ℕ) (place : ℕ → Path) (ts : List ℕ) : Type 0 where
  partials : Partials
  shows : ShowsAll (sig_of p) δ place ts partials
  values : Values
  completes : CompletesAll (sig_of p) ts partials values
  low : base + deepest (sig_of p) ts values ≤ n + 1

gather : (p : Problem) (δ : Decision) (n base : ℕ) → base ≤ n + 1 → (place : ℕ → Path) (ts : List ℕ)
    → ((j : ℕ) → j < length ts → Piece p δ n base (place j) (get_or ts j 0)) → Pieces p δ n base place ts
gather p δ n base l place [] f = record { partials = o[]; shows = s[]; values = v[]; completes = c[]; low = omega (arith, l) }
gather p δ n base l place (t ∷ ts) f =
    let x = f 0 (omega arith) in
    let r = gather p δ n base l (λ j. place (suc j)) ts (λ j m. f (suc j) (omega (arith, m))) in
    let a = x.low in
    let b = r.low in
    record {
      partials = x.partial o∷ r.partials;
      shows = x.shows s∷ r.shows;
      values = x.value v∷ r.values;
      completes = x.completes c∷ r.completes;
      low = omega (arith, a, b);
    }

module _ (p : Problem) (D : Depths (sig_of p)) (T : Table) (count n : ℕ) (w : Way) (L : Lawful p) (tab : Tabled p T count)
    (den : Denied p (measured D) T n w) where
  abbrev sig : Sig
  sig = sig_of p

  abbrev δ : Decision
  δ = decided p T w

  abbrev at : Path → ℕ
  at u = level p (measured D) u

  -- a case of a way that denies what does not fit leaves room for the arguments
  fits_below : (u : Path) (c : ℕ) → at u + D.least (type_of sig u) ≤ n + 1 → δ u ≡ some c
      → (c < width p u) × (at u + D.need (type_of sig u) c ≤ n + 1)
  fits_below u c fit e =
      let q = decided_says p T w u c e in
      (q.2, go (cases_lt (n + 1) (at u + D.need (type_of sig u) c)) q.0 q.1 q.2 q.3)
    where
      go : (n + 1 < at u + D.need (type_of sig u) c) ⊎ (at u + D.need (type_of sig u) c ≤ n + 1)
          → (a : ℕ) → opening T u ≡ some a → c < width p u → w (a + c) ≡ true → at u + D.need (type_of sig u) c ≤ n + 1
      go (inl deep) a o l s =
          absurd (both_ways (w (a + c)) (den u a c o l (le-leb (at u + D.least (type_of sig u) - 1) n (omega (arith, fit))) (omega (arith, deep))) s)
      go (inr fine) a o l s = fine

  -- what fits can be filled
  fill : (k : ℕ) (u : Path) → Declared sig (type_of sig u) → at u + D.least (type_of sig u) ≤ n + 1 → n + 1 ≤ at u + k
      → Piece p δ n (at u) u (type_of sig u)
  fill zero u d fit far = absurd (none_left (D.smallest (type_of sig u)) (D.smallest_depth (type_of sig u) d))
    where
      none_left : (v : Value) → depth sig (type_of sig u) v ≡ D.least (type_of sig u) → ⊥
      none_left (build c vs) e =
          let k = D.costs (type_of sig u) c in
          let a = D.adds (type_of sig u) c vs in
          omega (arith, e, a, k, fit, far)
  fill (suc k) u d fit far = go (δ u) refl (λ c j. fill k (child u c j))
    where
      go : (o : Option ℕ) → δ u ≡ o
          → ((c j : ℕ) → Declared sig (type_of sig (child u c j)) → at (child u c j) + D.least (type_of sig (child u c j)) ≤ n + 1
          → n + 1 ≤ at (child u c j) + k → Piece p δ n (at (child u c j)) (child u c j) (type_of sig (child u c j)))
          → Piece p δ n (at u) u (type_of sig u)
      go none e ih =
          let s = D.smallest_depth (type_of sig u) d in
          record {
            partial = open_part;
            shows = shows_open e;
            value = D.smallest (type_of sig u);
            completes = anything (D.smallest_is (type_of sig u) d);
            low = omega (arith, s, fit);
          }
      go (some c) e ih =
          let q = fits_below u c fit e in
          let room = q.1 in
          let own = D.own (type_of sig u) c in
          let x = D.costs (type_of sig u) c in
          let r = gather p δ n (at u + D.cost (type_of sig u) c) (omega (arith, own, room)) (child u c) (arguments sig (type_of sig u) c)
          (λ j l.
          let m = D.room (type_of sig u) c j l in
          ih c j ((lawful_types p L).1 (type_of sig u) c j d q.0 l) (omega (arith, m, room)) (omega (arith, x, far))) in
          let a = D.adds (type_of sig u) c r.values in
          let low = r.low in
          record {
            partial = built c r.partials;
            shows = shows_built e r.shows;
            value = build c r.values;
            completes = as_built q.0 r.completes;
            low = omega (arith, a, low);
          }

-- no problem unknown's type is too deep
not_deeper : (d : Measures) (n : ℕ) (ts : List ℕ) → any_deeper d n ts ≡ false → (k : ℕ) → k < length ts → d.least (get_or ts k 0) ≤ n
not_deeper d n [] e k l = absurd (omega (arith, l))
not_deeper d n (t ∷ ts) e zero l = ltb-false _ _ (or_parts _ _ e).0
not_deeper d n (t ∷ ts) e (suc k) l = not_deeper d n ts (or_parts _ _ e).1 k (omega (arith, l))

pub models_stand_lem : ModelsStand
models_stand_lem p D T count n force steps w L tab small asks jt =
    let den = asked_denied w p (measured D) n force T asks in
    let r = gather p (decided p T w) n 1 (omega arith) root p.unknowns
    (λ k l.
    let s = not_deeper (measured D) n p.unknowns small k l in
    fill p D T count n w L tab den n (root k) (declared_root p L k l) (omega (arith, s)) (omega arith)) in
    let low = r.low in
    record {
      fillable = (r.partials, r.shows, r.values, r.completes, omega (arith, low));
      filled = λ qs shown α f. (
        completes_typeds f,
        λ g l e.
            let j = jt g l e in
            true_allows p (decided p T w) g j.1 (record { steps = steps; left = j.2; args = j.0; judged = j.3 }) α
            (λ u c reached d.
            let o = decided_says p T w u c d in
            chooses p (decided p T w) qs shown α f u c reached (table_exists p T count tab u (in_table T u o.0 o.1)) d),
      );
      replays = λ qs shown g l e.
          let j = jt g l e in
          (j.0, j.1, j.2, replays_same p (decided p T w) qs shown L g steps ∙ j.3);
    }
