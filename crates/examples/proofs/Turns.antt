-- How a round goes where what is known leaves the chooser one way to pick, as far as it counts, or none. Assumes nothing.
use Rattle.std.proofs.Common.{◌≡◌, ℕ, zero, suc, ◌+◌, ◌<◌, ◌≤◌, Bool, true, false, cond, ◌&&◌, eqb, leb, ◌⊎◌, List, [], ◌∷◌, length, get_or, sym, refl, ap, ◌∙◌, subst, inl, inr, arith}
use mathlib.Core.Option.{Option, none, some}
use Rattle.std.proofs.lemmas.Bool.{both_ways, and_parts, and_from, leb-true}
use Rattle.chooser.specs.Ways.{lit, every}
use Rattle.chooser.specs.Meaning.{Meaning, Same}
use Rattle.syntax.specs.Problems.{Problem}
use Rattle.judging.specs.Paths.{Path, Decision, under}
use Rattle.judging.specs.Asked.{◌∈◌, first, later}
use Rattle.finder.specs.Levels.{measures}
use Rattle.finder.specs.Tables.{Entry, Table, opening, width, opened_at}
use Rattle.finder.specs.Ways.{Way, bit, how_many, one_of, decides_all, case_at, case_of, decided}
use Rattle.finder.specs.Clauses.{all_met, opening_clauses, entries, opening_entries, Extended}
use Rattle.finder.specs.Conflicts.{Conflict, choices_of, conflict_clause}
use Rattle.finder.specs.Asking.{switches, asked, Picks, Refuses}
use Rattle.finder.specs.Findings.{Finding, out_of_steps, false_goal, waiting_goal, all_true, finding}
use Rattle.finder.proofs.Tables.{entry_of}
use Rattle.histories.specs.Rounds.{model, none_within, never, spent_steps, Answer, closes, one_opened, one_recorded, Known, with_opened, with_conflict, most_unknowns, finds, conflict_in, Runs, none_found, never_found, foreign_found, steps_spent, conflict_recorded, conflict_too_long, unknown_opened, unknowns_spent, chooser_spent, model_found}

-- a way that gives the first variables these values
abbrev pub mk : List Bool → Way
mk bs v = get_or bs v false

-- w gives the variables from i on these values
abbrev pub Is : Way → ℕ → List Bool → Type 0
Is w i [] = Unit {0}
Is w i (b ∷ bs) = (w i ≡ b) × Is w (suc i) bs

agrees : (w : Way) (i : ℕ) (bs : List Bool) → Is w i bs → (v : ℕ) → v < length bs → w (i + v) ≡ mk bs v
agrees w i [] q v l = absurd (omega (arith, l))
agrees w i (b ∷ bs) q zero l = ap w none_more ∙ q.0
  where
    none_more : i + 0 ≡ i
    none_more = omega arith
agrees w i (b ∷ bs) q (suc v) l = ap w shift ∙ agrees w (suc i) bs q.1 v (omega (arith, l))
  where
    shift : i + suc v ≡ suc i + v
    shift = omega arith

-- Two ways that agree below c decide alike where all variables are below c.
abbrev pub room_for : Problem → ℕ → Path → Option ℕ → Bool
room_for p c u none = true
room_for p c u (some a) = leb (a + width p u) c

abbrev pub below : Problem → ℕ → Table → Bool
below p c [] = true
below p c (x ∷ T) = room_for p c x.path x.first && below p c T

module _ (p : Problem) (c : ℕ) (w w' : Way) (same : (v : ℕ) → v < c → w v ≡ w' v) where
  case_alike : (a m : ℕ) → a + m ≤ c → case_at w a m ≡ case_at w' a m
  case_alike a zero l = refl
  case_alike a (suc m) l = λ i. cond (same (a + m) (omega (arith, l)) i) (some m) (case_alike a m (omega (arith, l)) i)

  count_alike : (a m : ℕ) → a + m ≤ c → how_many w a m ≡ how_many w' a m
  count_alike a zero l = refl
  count_alike a (suc m) l = λ i. bit (same (a + m) (omega (arith, l)) i) + count_alike a m (omega (arith, l)) i

  below_each : (T : Table) → below p c T ≡ true → (x : Entry) → x ∈ T → room_for p c x.path x.first ≡ true
  below_each [] e x m = elim m [ ]
  below_each (y ∷ T) e x first = (and_parts _ _ e).0
  below_each (y ∷ T) e x (later m) = below_each T (and_parts _ _ e).1 x m

  decided_alike : (T : Table) → below p c T ≡ true → (u : Path) → decided p T w u ≡ decided p T w' u
  decided_alike T e u = go (opening T u) refl
    where
      go : (o : Option ℕ) → opening T u ≡ o → case_of w (width p u) (opening T u) ≡ case_of w' (width p u) (opening T u)
      go none f = ap (case_of w (width p u)) f ∙ sym (ap (case_of w' (width p u)) f)
      go (some a) f =
          ap (case_of w (width p u)) f
          ∙ case_alike a (width p u) (leb-true _ _ (below_each T e (record { path = u; first = some a }) (entry_of T u a f)))
          ∙ sym (ap (case_of w' (width p u)) f)

  one_alike : (u : Path) (o : Option ℕ) → room_for p c u o ≡ true → one_of p w u o ≡ one_of p w' u o
  one_alike u none e = refl
  one_alike u (some a) e = ap (λ n. eqb n 1) (count_alike a (width p u) (leb-true _ _ e))

  decides_alike : (T : Table) → below p c T ≡ true → decides_all p w T ≡ decides_all p w' T
  decides_alike [] e = refl
  decides_alike (x ∷ T) e =
      let q = and_parts _ _ e in
      λ i. one_alike x.path x.first q.0 i && decides_alike T q.1 i

  decision_alike : (T : Table) → below p c T ≡ true → decided p T w ≡ decided p T w'
  decision_alike T e = λ i u. decided_alike T e u i

-- a round that ends with this answer, and with nothing else known
pub record Halts (a₀ a : Answer) (X X' : Known) (M M' : Meaning) : Type 0 where
  pub answers : a ≡ a₀
  pub known : X ≡ X'
  pub meant : Same M M'

module _ (p : Problem) (force : ℕ → Bool) (n steps k : ℕ) (X : Known) (M : Meaning) (a : Answer) (X' : Known) (M' : Meaning) where
  abbrev Records : Conflict → Type 0
  Records c =
      (M₁ : Meaning) × (a₁ : Answer) × (a ≡ one_recorded a₁) × Extended M M₁ 0 (conflict_clause X.table c ∷ [])
      × Runs p force n steps k (with_conflict X c) M₁ a₁ X' M'

  abbrev Opens : Path → ℕ → Type 0
  Opens u v =
      (M₁ : Meaning) × (a₁ : Answer) × (a ≡ one_opened a₁) × Extended M M₁ (width p u) (opening_clauses v (width p u))
      × Runs p force n steps k (with_opened p X u v) M₁ a₁ X' M'

  -- what a finding leads to, by a decision δ
  abbrev Then : Way → Decision → Finding Path → Type 0
  Then w δ (out_of_steps g) = Halts (closes (spent_steps g)) a X X' M M'
  Then w δ (false_goal g E) =
      (M.left < length (choices_of δ E X.table) + 2) ⊎ Records (record { of = g; choices = choices_of δ E X.table })
  Then w δ (waiting_goal g u) =
      (most_unknowns < length (opened_at p u M.count X.table))
      ⊎ (((M.room < width p u) ⊎ (M.left < opening_entries (width p u))) ⊎ Opens u M.count)
  Then w δ all_true = Halts (closes (model w)) a X X' M M'

  abbrev Refused : Type 0
  Refused = ((w : Way) × Picks M (switches p force) w × Halts (closes none_within) a X X' M M')
      ⊎ (Refuses M (switches p force) × Halts (closes never) a X X' M M')

  abbrev Turned : Type 0
  Turned = (Refuses M (asked p (measures p) force n X.table) × Refused)
      ⊎ (((w : Way) × Picks M (asked p (measures p) force n X.table) w × (decides_all p w X.table ≡ false))
      ⊎ ((w : Way) × Picks M (asked p (measures p) force n X.table) w × Then w (decided p X.table w) (finds p force steps X w)))

halt : {a : Answer} {X : Known} {M M' : Meaning} → Same M M' → Halts a a X X M M'
halt same = record { answers = refl; known = refl; meant = same }

turn : {p : Problem} {force : ℕ → Bool} {n steps k : ℕ} {X X' : Known} {M M' : Meaning} {a : Answer}
    → Runs p force n steps (suc k) X M a X' M' → Turned p force n steps k X M a X' M'
turn (none_found w no' yes' same) = inl (no', inl (w, yes', halt same))
turn (never_found no' none' same) = inl (no', inr (none', halt same))
turn (foreign_found w pick bad same) = inr (inl (w, pick, bad))
turn {p} {force} {n} {steps} {k} {X} {X'} {M} {M'} {a} (steps_spent w g by found same) =
    inr (inr (w, by.picked, subst (Then p force n steps k X M a X' M' w (decided p X.table w)) (sym found) (halt same)))
turn {p} {force} {n} {steps} {k} {X} {X'} {M} {M'} {a} (conflict_recorded {M₁ = M₁} {a = a₁} w g E by found room ext run) =
    inr (inr (w, by.picked, subst (Then p force n steps k X M a X' M' w (decided p X.table w)) (sym found) (inr (M₁, a₁, refl, ext, run))))
turn {p} {force} {n} {steps} {k} {X} {X'} {M} {M'} {a} (conflict_too_long w g E by found room same) =
    inr (inr (w, by.picked, subst (Then p force n steps k X M a X' M' w (decided p X.table w)) (sym found) (inl room)))
turn {p} {force} {n} {steps} {k} {X} {X'} {M} {M'} {a} (unknown_opened {M₁ = M₁} {a = a₁} w g u by found fewer room left ext run) =
    inr (inr (w, by.picked, subst (Then p force n steps k X M a X' M' w (decided p X.table w)) (sym found) (inr (inr (M₁, a₁, refl, ext, run)))))
turn {p} {force} {n} {steps} {k} {X} {X'} {M} {M'} {a} (unknowns_spent w g u by found many same) =
    inr (inr (w, by.picked, subst (Then p force n steps k X M a X' M' w (decided p X.table w)) (sym found) (inl many)))
turn {p} {force} {n} {steps} {k} {X} {X'} {M} {M'} {a} (chooser_spent w g u by found fewer small same) =
    inr (inr (w, by.picked, subst (Then p force n steps k X M a X' M' w (decided p X.table w)) (sym found) (inr (inl small))))
turn {p} {force} {n} {steps} {k} {X} {X'} {M} {M'} {a} (model_found w by found same) =
    inr (inr (w, by.picked, subst (Then p force n steps k X M a X' M' w (decided p X.table w)) (sym found) (halt same)))

-- the chooser has c variables, allows the ways that F does, and has so many variables and entries left
pub record At (c : ℕ) (F : Way → Bool) (room left : ℕ) (M : Meaning) : Type 0 where
  pub counts : M.count ≡ c
  pub allows : (w : Way) → M.ways w ≡ F w
  pub rooms : room ≤ M.room
  pub leaves : left ≤ M.left

pub at_same : {c room left : ℕ} {F : Way → Bool} {M M' : Meaning} → Same M M' → At c F room left M → At c F room left M'
at_same same q =
    let r = same.rooms in
    let l = same.leaves in
    let r' = q.rooms in
    let l' = q.leaves in
    record {
      counts = same.counts ∙ q.counts;
      allows = λ w. same.allows w ∙ q.allows w;
      rooms = omega (arith, r, r');
      leaves = omega (arith, l, l');
    }

pub at_more : (c room left m : ℕ) (F : Way → Bool) (M M' : Meaning) (cs : List (List ℕ)) → Extended M M' m cs → At c F (room + m) (left + entries cs) M
    → At (c + m) (λ w. F w && all_met w cs) room left M'
at_more c room left m F M M' cs e q =
    let k = e.counts in
    let k' = q.counts in
    let r = e.rooms in
    let l = e.spends in
    let r' = q.rooms in
    let l' = q.leaves in
    record {
      counts = omega (arith, k, k');
      allows = λ w. e.allows w ∙ ap (λ b. b && all_met w cs) (q.allows w);
      rooms = omega (arith, r, r');
      leaves = omega (arith, l, l');
    }

module _ (p : Problem) (force : ℕ → Bool) (n steps k : ℕ) (X : Known) (M : Meaning) (a : Answer) (X' : Known) (M' : Meaning) (c : ℕ)
    (F : Way → Bool) (allowed : (w : Way) → M.ways w ≡ F w) where
  abbrev asks : List ℕ
  asks = asked p (measures p) force n X.table

  picks_as : (ls : List ℕ) (w : Way) → Picks M ls w → (F w ≡ true) × (every (lit w) ls ≡ true)
  picks_as ls w pick = (sym (allowed w) ∙ pick.allowed, pick.meets)

  like : (w : Way) (bs : List Bool) → length bs ≡ c → Is w 0 bs → (v : ℕ) → v < c → w v ≡ mk bs v
  like w bs long is v l = ap w (sym zero_more) ∙ agrees w 0 bs is v (omega (arith, l, long))
    where
      zero_more : 0 + v ≡ v
      zero_more = omega arith

  -- where one way is left, as far as it counts
  settled : (bs : List Bool) → length bs ≡ c → F (mk bs) ≡ true → every (lit (mk bs)) asks ≡ true → below p c X.table ≡ true
      → decides_all p (mk bs) X.table ≡ true → ((w : Way) → F w ≡ true → every (lit w) asks ≡ true → Is w 0 bs)
      → Turned p force n steps k X M a X' M'
      → (w : Way) × Is w 0 bs × Then p force n steps k X M a X' M' w (decided p X.table (mk bs)) (finds p force steps X (mk bs))
  settled bs long can meets inside dec only (inl t) = absurd (both_ways _ (t.0 (mk bs)) (and_from _ _ (allowed (mk bs) ∙ can) meets))
  settled bs long can meets inside dec only (inr (inl t)) =
      let w : Way = t.0 in
      let s = picks_as asks w t.1 in
      absurd (both_ways _ t.2 (decides_alike p c w (mk bs) (like w bs long (only w s.0 s.1)) X.table inside ∙ dec))
  settled bs long can meets inside dec only (inr (inr t)) =
      let w : Way = t.0 in
      let s = picks_as asks w t.1 in
      let is = only w s.0 s.1 in
      let same = decision_alike p c w (mk bs) (like w bs long is) X.table inside in
      (w, is, subst (λ δ. Then p force n steps k X M a X' M' w δ (finding p (under p δ) force steps)) same t.2)

  -- where none is
  barred : ((w : Way) → F w ≡ true → every (lit w) asks ≡ true → ⊥) → Turned p force n steps k X M a X' M'
      → Refused p force n steps k X M a X' M'
  barred none' (inl t) = t.1
  barred none' (inr (inl t)) = let s = picks_as asks t.0 t.1 in absurd (none' t.0 s.0 s.1)
  barred none' (inr (inr t)) = let s = picks_as asks t.0 t.1 in absurd (none' t.0 s.0 s.1)

  is_none : (w : Way) → F w ≡ true → every (lit w) (switches p force) ≡ true → Refused p force n steps k X M a X' M'
      → Halts (closes none_within) a X X' M M'
  is_none w can meets (inl t) = t.2
  is_none w can meets (inr t) = absurd (both_ways _ (t.0 w) (and_from _ _ (allowed w ∙ can) meets))

  is_never : ((w : Way) → F w ≡ true → every (lit w) (switches p force) ≡ true → ⊥) → Refused p force n steps k X M a X' M'
      → Halts (closes never) a X X' M M'
  is_never none' (inl t) = let s = picks_as (switches p force) t.0 t.1 in absurd (none' t.0 s.0 s.1)
  is_never none' (inr t) = t.1

  -- with enough room, what waits is opened and what is false is recorded
  opened : (w : Way) (δ : Decision) (g : ℕ) (u : Path) (room left : ℕ)
      → At c F (room + width p u) (left + entries (opening_clauses c (width p u))) M
      → length (opened_at p u c X.table) ≤ most_unknowns → opening_entries (width p u) ≤ entries (opening_clauses c (width p u))
      → Then p force n steps k X M a X' M' w δ (waiting_goal g u)
      → (M₁ : Meaning) × (a₁ : Answer) × (a ≡ one_opened a₁) × At (c + width p u) (λ v. F v && all_met v (opening_clauses c (width p u))) room left M₁
      × Runs p force n steps k (with_opened p X u c) M₁ a₁ X' M'
  opened w δ g u room left q small needs (inl many) =
      let many' = subst (λ v. most_unknowns < length (opened_at p u v X.table)) q.counts many in
      absurd (omega (arith, small, many'))
  opened w δ g u room left q small needs (inr (inl (inl few))) = let r = q.rooms in absurd (omega (arith, r, few))
  opened w δ g u room left q small needs (inr (inl (inr few))) = let l = q.leaves in absurd (omega (arith, l, few, needs))
  opened w δ g u room left q small needs (inr (inr t)) =
      let ext = subst (λ v. Extended M t.0 (width p u) (opening_clauses v (width p u))) q.counts t.3 in (
        t.0,
        t.1,
        t.2,
        at_more c room left (width p u) F M t.0 (opening_clauses c (width p u)) ext q,
        subst (λ v. Runs p force n steps k (with_opened p X u v) t.0 t.1 X' M') q.counts t.4,
      )

  recorded : (w : Way) (δ : Decision) (g : ℕ) (E : List Path) (room left : ℕ) (cl : List ℕ)
      → conflict_clause X.table (record { of = g; choices = choices_of δ E X.table }) ≡ cl
      → length (choices_of δ E X.table) + 2 ≡ entries (cl ∷ []) → At c F room (left + entries (cl ∷ [])) M
      → Then p force n steps k X M a X' M' w δ (false_goal g E)
      → (M₁ : Meaning) × (a₁ : Answer) × (a ≡ one_recorded a₁) × At c (λ v. F v && all_met v (cl ∷ [])) room left M₁
      × Runs p force n steps k (with_conflict X (record { of = g; choices = choices_of δ E X.table })) M₁ a₁ X' M'
  recorded w δ g E room left cl is long q (inl few) = let l = q.leaves in absurd (omega (arith, l, few, long))
  recorded w δ g E room left cl is long q (inr t) =
      let ext = subst (λ x. Extended M t.0 0 (x ∷ [])) is t.3 in
      let r = q.rooms in
      let q' : At c F (room + 0) (left + entries (cl ∷ [])) M =
      record { counts = q.counts; allows = q.allows; rooms = omega (arith, r); leaves = q.leaves } in
      let m = at_more c room left 0 F M t.0 (cl ∷ []) ext q' in
      (t.0, t.1, t.2, subst (λ x. At x (λ v. F v && all_met v (cl ∷ [])) room left t.0) none_more m, t.4)
    where
      none_more : c + 0 ≡ c
      none_more = omega arith

-- what leaves one way
pub record OneWay (p : Problem) (force : ℕ → Bool) (n c : ℕ) (X : Known) (F : Way → Bool) (bs : List Bool) : Type 0 where
  pub long : length bs ≡ c
  pub can : F (mk bs) ≡ true
  pub meets : every (lit (mk bs)) (asked p (measures p) force n X.table) ≡ true
  pub inside : below p c X.table ≡ true
  pub decides : decides_all p (mk bs) X.table ≡ true
  pub only : (w : Way) → F w ≡ true → every (lit w) (asked p (measures p) force n X.table) ≡ true → Is w 0 bs

module _ {p : Problem} {force : ℕ → Bool} {n steps k : ℕ} {X X' : Known} {M M' : Meaning} {a : Answer} where
  pub open_round : Runs p force n steps (suc k) X M a X' M' → (c : ℕ) (F : Way → Bool) (bs : List Bool) → OneWay p force n c X F bs
      → (g : ℕ) (u : Path) → finds p force steps X (mk bs) ≡ waiting_goal g u → (room left : ℕ)
      → At c F (room + width p u) (left + entries (opening_clauses c (width p u))) M
      → length (opened_at p u c X.table) ≤ most_unknowns → opening_entries (width p u) ≤ entries (opening_clauses c (width p u))
      → (M₁ : Meaning) × (a₁ : Answer) × (a ≡ one_opened a₁) × At (c + width p u) (λ v. F v && all_met v (opening_clauses c (width p u))) room left M₁
      × Runs p force n steps k (with_opened p X u c) M₁ a₁ X' M'
  open_round run c F bs o g u found room left q small needs =
      let t = settled p force n steps k X M a X' M' c F q.allows bs o.long o.can o.meets o.inside o.decides o.only (turn run) in
      opened p force n steps k X M a X' M' c F q.allows t.0 (decided p X.table (mk bs)) g u room left q small needs
      (subst (Then p force n steps k X M a X' M' t.0 (decided p X.table (mk bs))) found t.2)

  pub record_round : Runs p force n steps (suc k) X M a X' M' → (c : ℕ) (F : Way → Bool) (bs : List Bool) → OneWay p force n c X F bs
      → (g : ℕ) (E : List Path) → finds p force steps X (mk bs) ≡ false_goal g E → (room left : ℕ) (cl : List ℕ)
      → conflict_clause X.table (conflict_in p X (mk bs) g E) ≡ cl → length (conflict_in p X (mk bs) g E).choices + 2 ≡ entries (cl ∷ [])
      → At c F room (left + entries (cl ∷ [])) M
      → (M₁ : Meaning) × (a₁ : Answer) × (a ≡ one_recorded a₁) × At c (λ v. F v && all_met v (cl ∷ [])) room left M₁
      × Runs p force n steps k (with_conflict X (conflict_in p X (mk bs) g E)) M₁ a₁ X' M'
  record_round run c F bs o g E found room left cl is long q =
      let t = settled p force n steps k X M a X' M' c F q.allows bs o.long o.can o.meets o.inside o.decides o.only (turn run) in
      recorded p force n steps k X M a X' M' c F q.allows t.0 (decided p X.table (mk bs)) g E room left cl is long q
      (subst (Then p force n steps k X M a X' M' t.0 (decided p X.table (mk bs))) found t.2)

  pub model_round : Runs p force n steps (suc k) X M a X' M' → (c room left : ℕ) (F : Way → Bool) (bs : List Bool) → OneWay p force n c X F bs
      → finds p force steps X (mk bs) ≡ all_true → At c F room left M → (w : Way) × Is w 0 bs × Halts (closes (model w)) a X X' M M'
  model_round run c room left F bs o found q =
      let t = settled p force n steps k X M a X' M' c F q.allows bs o.long o.can o.meets o.inside o.decides o.only (turn run) in
      (t.0, t.1, subst (Then p force n steps k X M a X' M' t.0 (decided p X.table (mk bs))) found t.2)

  pub out_round : Runs p force n steps (suc k) X M a X' M' → (c room left : ℕ) (F : Way → Bool) (bs : List Bool) → OneWay p force n c X F bs
      → (g : ℕ) → finds p force steps X (mk bs) ≡ out_of_steps g → At c F room left M → Halts (closes (spent_steps g)) a X X' M M'
  out_round run c room left F bs o g found q =
      let t = settled p force n steps k X M a X' M' c F q.allows bs o.long o.can o.meets o.inside o.decides o.only (turn run) in
      subst (Then p force n steps k X M a X' M' t.0 (decided p X.table (mk bs))) found t.2

  pub none_round : Runs p force n steps (suc k) X M a X' M' → (c room left : ℕ) (F : Way → Bool) → At c F room left M
      → ((w : Way) → F w ≡ true → every (lit w) (asked p (measures p) force n X.table) ≡ true → ⊥)
      → (w : Way) → F w ≡ true → every (lit w) (switches p force) ≡ true → Halts (closes none_within) a X X' M M'
  none_round run c room left F q none' w can meets =
      is_none p force n steps k X M a X' M' c F q.allows w can meets (barred p force n steps k X M a X' M' c F q.allows none' (turn run))

  pub never_round : Runs p force n steps (suc k) X M a X' M' → (c room left : ℕ) (F : Way → Bool) → At c F room left M
      → ((w : Way) → F w ≡ true → every (lit w) (asked p (measures p) force n X.table) ≡ true → ⊥)
      → ((w : Way) → F w ≡ true → every (lit w) (switches p force) ≡ true → ⊥) → Halts (closes never) a X X' M M'
  never_round run c room left F q none' none'' =
      is_never p force n steps k X M a X' M' c F q.allows none'' (barred p force n steps k X M a X' M' c F q.allows none' (turn run))
