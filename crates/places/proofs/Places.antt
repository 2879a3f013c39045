-- The places of a table name its paths, so judging by places is judging by paths. Assumes nothing.
use Rattle.std.proofs.Common.{◌≡◌, ℕ, zero, suc, ◌+◌, ◌<◌, ◌≤◌, Bool, true, false, cond, ◌||◌, eqb, ◌⊎◌, List, [], ◌∷◌, map, length, sym, refl, ap, ◌∙◌, subst, inl, inr, zero-add, arith}
use mathlib.Core.Option.{Option, none, some, none-ne-some}
use Rattle.std.proofs.lemmas.Bool.{cases_lt, cases_eq, eq-eqb, ne_eqb}
use Rattle.syntax.specs.Problems.{Problem}
use Rattle.judging.specs.Held.{goal}
use Rattle.judging.specs.Judging.{Unknowns, Head, is, waits, judge}
use Rattle.judging.specs.Paths.{Path, root, child, Decision, children_from, under}
use Rattle.judging.specs.Explained.{All, ◌all∷◌}
use Rattle.judging.specs.Asked.{◌∈◌, first, later, Asked, asked_root, asked_kid}
use Rattle.judging.specs.Names.{named_head, result, Names}
use Rattle.judging.proofs.Asked.{all_map, goal_asked}
use Rattle.judging.proofs.Names.{by_names}
use Rattle.held.specs.Explanations.{member}
use Rattle.finder.specs.Tables.{cases_at, width, arity, Entry, Table, paths, same_path, opening, closed_entry, Tabled}
use Rattle.finder.specs.Ways.{Way, case_of, decided}
use Rattle.finder.specs.Clauses.{off}
use Rattle.finder.specs.Conflicts.{Choice, has, add_choice, choices_of, differs, some_differs}
use Rattle.finder.specs.Findings.{Finding, out_of_steps, false_goal, waiting_goal, all_true, after_waiting, after_goal, finding_from}
use Rattle.finder.proofs.Tables.{in_cons, same_path_self, same_path_not, opening_entry}
use Rattle.finder.proofs.Ways.{decided_says}
use Rattle.finder.proofs.Conflicts.{choices_are}
use Rattle.finder.proofs.Findings.{Says, finding_says}
use Rattle.places.specs.Places.{at, entry_at, offset, Placed, from, case_in, places, named_finding, differing, marked_literals}
use Rattle.places.specs.Claims.{PlacesName, FoundByPlaces, ConflictByPlaces}
use Rattle.places.proofs.Openings.{length_paths, at_entry, entry_in, one_place}

beyond : (T : Table) (i : ℕ) → length T ≤ i → entry_at T i ≡ closed_entry (root 0)
beyond [] i l = refl
beyond (x ∷ T) zero l = absurd (omega (arith, l))
beyond (x ∷ T) (suc i) l = beyond T i (omega (arith, l))

from_is : (i m v : ℕ) → v ∈ from i m → (t : ℕ) × (v ≡ i + t) × (t < m)
from_is i zero v m = elim m [ ]
from_is i (suc n) v m = go (in_cons m) (from_is (suc i) n v)
  where
    go : (i ≡ v) ⊎ (v ∈ from (suc i) n) → (v ∈ from (suc i) n → (t : ℕ) × (v ≡ suc i + t) × (t < n)) → (t : ℕ) × (v ≡ i + t) × (t < suc n)
    go (inl e) ih = (0, omega (arith, e), omega arith)
    go (inr q) ih =
        let r = ih q in
        let e = r.1 in
        let l = r.2 in
        (suc r.0, omega (arith, e), omega (arith, l))

module _ (p : Problem) (T : Table) (count : ℕ) (kids : ℕ → ℕ) (w : Way) (tab : Tabled p T count) (pl : Placed p T kids) where
  abbrev K : Unknowns ℕ
  K = places p T kids w

  entry_opening : (i : ℕ) → i < length T → opening T (entry_at T i).path ≡ (entry_at T i).first
  entry_opening i l = opening_entry T (entry_at T i) tab.distinct (entry_in T i l)

  pub own_case : (i : ℕ) → i < length T → decided p T w (at T i) ≡ case_in p w (entry_at T i)
  own_case i l =
      ap (decided p T w) (at_entry T i) ∙ ap (case_of w (width p (entry_at T i).path)) (entry_opening i l)

  chosen_inside : (i c : ℕ) → case_in p w (entry_at T i) ≡ some c → i < length T
  chosen_inside i c e = go (cases_lt i (length T))
    where
      go : (i < length T) ⊎ (length T ≤ i) → i < length T
      go (inl l) = l
      go (inr l) = absurd (none-ne-some c (sym (ap (case_in p w) (beyond T i l)) ∙ e))

  -- what a decided place has as children
  pub kid_at : (i c j : ℕ) → case_in p w (entry_at T i) ≡ some c → j < arity p (at T i) c
      → (kids i + (offset (cases_at p (at T i)) c + j) < length T) × (at T (kids i + (offset (cases_at p (at T i)) c + j)) ≡ child (at T i) c j)
  kid_at i c j e l =
      let inside = chosen_inside i c e in
      let q = decided_says p T w (at T i) c (own_case i inside ∙ e) in
      pl.kids_placed i q.0 c j inside q.1 q.2 l

  pub in_range : {i : ℕ} → Asked p K i → i < length T
  in_range (asked_root {k = k} l) = (pl.roots_first k l).0
  in_range {i} (asked_kid {u = u} {c = c} a e m) =
      let r = from_is (kids u + offset (cases_at p (at T u)) c) (arity p (at T u) c) i m in
      let q = (kid_at u c r.0 e r.2).0 in
      let s = r.1 in
      omega (arith, q, s)

  from_named : (u : Path) (c i j m : ℕ) → ((t : ℕ) → t < m → at T (i + t) ≡ child u c (j + t)) → map (at T) (from i m) ≡ children_from u c j m
  from_named u c i j zero f = refl
  from_named u c i j (suc m) f =
      λ x. first_is x ∷ from_named u c (suc i) (suc j) m
      (λ t l. ap (at T) (shift i t) ∙ f (suc t) (omega (arith, l)) ∙ ap (child u c) (sym (shift j t))) x
    where
      shift : (a t : ℕ) → suc a + t ≡ a + suc t
      shift a t = omega arith

      none_more : (a : ℕ) → a ≡ a + 0
      none_more a = omega arith

      first_is : at T i ≡ child u c j
      first_is = ap (at T) (none_more i) ∙ f 0 (omega arith) ∙ ap (child u c) (sym (none_more j))

  kids_named : (i c : ℕ) → case_in p w (entry_at T i) ≡ some c
      → map (at T) (from (kids i + offset (cases_at p (at T i)) c) (arity p (at T i) c)) ≡ children_from (at T i) c 0 (arity p (at T i) c)
  kids_named i c e =
      from_named (at T i) c _ 0 _
      (λ t m. ap (at T) (assoc (kids i) (offset (cases_at p (at T i)) c) t) ∙ (kid_at i c t e m).1 ∙ ap (child (at T i) c) (sym (zero-add t)))
    where
      assoc : (a b t : ℕ) → a + b + t ≡ a + (b + t)
      assoc a b t = omega arith

  names : Names p K (at T) (decided p T w)
  names =
      record {
        at_roots = λ k l. (pl.roots_first k l).1;
        at_kids = λ i c a e. kids_named i c e;
        at_chosen = λ i a. own_case i (in_range a);
      }

pub places_name : PlacesName
places_name p T count kids w tab pl = names p T count kids w tab pl

-- findings by other names
module _ {U V : Type 0} (f : U → V) where
  waiting_named : (g : ℕ) (u : U) (r : Finding U) → after_waiting g (f u) (named_finding f r) ≡ named_finding f (after_waiting g u r)
  waiting_named g u (out_of_steps h) = refl
  waiting_named g u (false_goal h E) = refl
  waiting_named g u (waiting_goal h v) = refl
  waiting_named g u all_true = refl

  goal_named : (g : ℕ) (o : Option (Head U × ℕ)) (r : Finding U)
      → after_goal g (result (named_head f) o) (named_finding f r) ≡ named_finding f (after_goal g o r)
  goal_named g none r = refl
  goal_named g (some (is zero xs E, left)) r = refl
  goal_named g (some (is (suc c) xs E, left)) r = refl
  goal_named g (some (waits u, left)) r = waiting_named g u r

  module _ (p : Problem) (K : Unknowns U) (K' : Unknowns V) (force : ℕ → Bool) (steps : ℕ)
      (same : (g : ℕ) → judge p K' (goal p g) steps ≡ result (named_head f) (judge p K (goal p g) steps)) where
    finding_named : (g m : ℕ) → finding_from p K' force steps g m ≡ named_finding f (finding_from p K force steps g m)
    finding_named g zero = refl
    finding_named g (suc m) = go (force g) (finding_named (suc g) m)
      where
        go : (b : Bool) → finding_from p K' force steps (suc g) m ≡ named_finding f (finding_from p K force steps (suc g) m)
            → cond b (after_goal g (judge p K' (goal p g) steps) (finding_from p K' force steps (suc g) m)) (finding_from p K' force steps (suc g) m)
            ≡ named_finding f (cond b (after_goal g (judge p K (goal p g) steps) (finding_from p K force steps (suc g) m)) (finding_from p K force steps (suc g) m))
        go true ih =
            (λ i. after_goal g (same g i) (ih i)) ∙ goal_named g (judge p K (goal p g) steps) (finding_from p K force steps (suc g) m)
        go false ih = ih

pub found_by_places : FoundByPlaces
found_by_places p L T count kids w tab pl force steps =
    finding_named (at T) p (places p T kids w) (under p (decided p T w)) force steps
    (λ g. by_names p L (places p T kids w) (at T) (decided p T w) (names p T count kids w tab pl) g steps) 0 (length p.goals)

-- an explanation by places
same_place : (T : Table) (count : ℕ) (p : Problem) → Tabled p T count → (m i : ℕ) → m < length T → i < length T
    → same_path (at T m) (at T i) ≡ eqb m i
same_place T count p tab m i k l = go (cases_eq m i)
  where
    go : (m ≡ i) ⊎ (¬ (m ≡ i)) → same_path (at T m) (at T i) ≡ eqb m i
    go (inl e) = subst (λ x. same_path (at T m) (at T x) ≡ true) e (same_path_self (at T m)) ∙ sym (eq-eqb m i e)
    go (inr e) =
        let len = length_paths T in
        same_path_not (at T m) (at T i)
        (λ q. e (one_place (paths T) m i (root 0) tab.distinct (omega (arith, k, len)) (omega (arith, l, len)) q))
        ∙ sym (ne_eqb m i e)

member_has : (T : Table) (count : ℕ) (p : Problem) → Tabled p T count → (E : List ℕ) → All (λ m. m < length T) E → (i : ℕ) → i < length T
    → has (map (at T) E) (at T i) ≡ member E i
member_has T count p tab [] q i l = refl
member_has T count p tab (m ∷ E) (k all∷ q) i l =
    λ x. same_place T count p tab m i k l x || member_has T count p tab E q i l x

differs_as : (f : Option ℕ) (c : ℕ) (ls : List ℕ) → differs c f ls ≡ differing f (some c) ls
differs_as none c ls = refl
differs_as (some a) c ls = refl

differing_none : (f : Option ℕ) (ls : List ℕ) → differing f none ls ≡ ls
differing_none none ls = refl
differing_none (some a) ls = refl

module _ (p : Problem) (T : Table) (w : Way) (δ : Decision) (E : List Path) (marks : ℕ → Bool) where
  -- the entry at place i of the table
  record Marked (i : ℕ) (x : Entry) : Type 0 where
    opens : opening T x.path ≡ x.first
    decides : δ x.path ≡ case_in p w x
    mark : marks i ≡ has E x.path

  literals : (i : ℕ) (X : Table) → ((j : ℕ) → j < length X → Marked (i + j) (entry_at X j))
      → some_differs T (choices_of δ E X) ≡ marked_literals p w marks i X
  literals i [] f = refl
  literals i (x ∷ X) f =
      go (has E x.path) refl (literals (suc i) X (λ j l. subst (λ n. Marked n (entry_at X j)) (shift j) (f (suc j) (omega (arith, l)))))
    where
      shift : (j : ℕ) → i + suc j ≡ suc i + j
      shift j = omega arith

      here : Marked i x
      here = subst (λ n. Marked n x) none_more (f 0 (omega arith))
        where
          none_more : i + 0 ≡ i
          none_more = omega arith

      add : (o : Option ℕ) → δ x.path ≡ o → case_in p w x ≡ o → some_differs T (choices_of δ E X) ≡ marked_literals p w marks (suc i) X
          → some_differs T (add_choice x.path (δ x.path) (choices_of δ E X))
          ≡ differing x.first (case_in p w x) (marked_literals p w marks (suc i) X)
      add none d c ih =
          ap (λ o. some_differs T (add_choice x.path o (choices_of δ E X))) d ∙ ih
          ∙ sym (ap (λ o. differing x.first o (marked_literals p w marks (suc i) X)) c ∙ differing_none x.first _)
      add (some k) d c ih =
          ap (λ o. some_differs T (add_choice x.path o (choices_of δ E X))) d
          ∙ (λ y. differs k (here.opens y) (ih y))
          ∙ differs_as x.first k (marked_literals p w marks (suc i) X)
          ∙ sym (ap (λ o. differing x.first o (marked_literals p w marks (suc i) X)) c)

      go : (b : Bool) → has E x.path ≡ b → some_differs T (choices_of δ E X) ≡ marked_literals p w marks (suc i) X
          → some_differs T (choices_of δ E (x ∷ X)) ≡ marked_literals p w marks i (x ∷ X)
      go true h ih =
          ap (λ b. some_differs T (cond b (add_choice x.path (δ x.path) (choices_of δ E X)) (choices_of δ E X))) h
          ∙ add (δ x.path) refl (sym here.decides) ih
          ∙ sym (ap (λ b. cond b (differing x.first (case_in p w x) (marked_literals p w marks (suc i) X)) (marked_literals p w marks (suc i) X))
          (here.mark ∙ h))
      go false h ih =
          ap (λ b. some_differs T (cond b (add_choice x.path (δ x.path) (choices_of δ E X)) (choices_of δ E X))) h
          ∙ ih
          ∙ sym (ap (λ b. cond b (differing x.first (case_in p w x) (marked_literals p w marks (suc i) X)) (marked_literals p w marks (suc i) X))
          (here.mark ∙ h))

each_differs : (T : Table) (xs : List Choice) → ((x : Choice) → x ∈ xs → (a : ℕ) × (opening T x.at ≡ some a))
    → length (some_differs T xs) ≡ length xs
each_differs T [] f = refl
each_differs T (x ∷ xs) f =
    ap (λ o. length (differs x.con o (some_differs T xs))) (f x first).1 ∙ ap suc (each_differs T xs (λ y m. f y (later m)))

pub conflict_by_places : ConflictByPlaces
conflict_by_places p L T count kids w tab pl force steps g E e marks m = (ap (◌∷◌ (off g)) same, sym lengths ∙ ap length same)
  where
    K' : Unknowns ℕ
    K' = places p T kids w

    inside : All (λ i. i < length T) E
    inside =
        let q = subst (Says p (places p T kids w) force steps 0 (length p.goals)) e (finding_says p (places p T kids w) force steps 0 (length p.goals)) in
        all_map (λ i a. in_range p T count kids w tab pl a.0)
        (goal_asked ℕ p L (places p T kids w) g steps q.3 0 q.2 E q.4)

    same : some_differs T (choices_of (decided p T w) (map (at T) E) T) ≡ marked_literals p w marks 0 T
    same =
        literals p T w (decided p T w) (map (at T) E) marks 0 T
        (λ j l.
        record {
          opens = entry_opening p T count kids w tab pl j l;
          decides = ap (decided p T w) (sym (at_entry T j)) ∙ own_case p T count kids w tab pl j l;
          mark = ap marks (zero-add j) ∙ m j l ∙ sym (member_has T count p tab E inside j l) ∙ ap (has (map (at T) E)) (at_entry T j);
        })

    lengths : length (some_differs T (choices_of (decided p T w) (map (at T) E) T)) ≡ length (choices_of (decided p T w) (map (at T) E) T)
    lengths =
        each_differs T _
        (λ x n. let q = decided_says p T w x.at x.con (choices_are (decided p T w) (map (at T) E) T x n) in (q.0, q.1))
