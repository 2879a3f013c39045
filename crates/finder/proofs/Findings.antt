-- What a finding says of the goals it was found by, and that an awaited unknown is in the table and not opened. Assumes nothing.
use Rattle.std.proofs.Common.{◌≡◌, ℕ, zero, suc, ◌+◌, ◌<◌, ◌≤◌, Bool, true, false, cond, ◌⊎◌, List, length, sym, refl, ap, ◌∙◌, subst, inl, inr, arith}
use mathlib.Core.Option.{Option, none, some}
use Rattle.std.proofs.lemmas.Bool.{both_ways, cases_order}
use Rattle.syntax.specs.Problems.{Problem, sig_of}
use Rattle.judging.specs.Held.{Helds, goal}
use Rattle.judging.specs.Judging.{Unknowns, Head, is, waits, judge}
use Rattle.judging.specs.Paths.{Path, root, child, under}
use Rattle.judging.specs.Asked.{◌∈◌}
use Rattle.judging.specs.Reached.{Reached, Exists}
use Rattle.judging.proofs.Goals.{goal_waits}
use Rattle.finder.specs.Tables.{Table, paths, opening, Tabled}
use Rattle.finder.specs.Ways.{Way, decided}
use Rattle.finder.specs.Findings.{Finding, out_of_steps, false_goal, waiting_goal, all_true, after_waiting, after_goal, finding_from, finding}
use Rattle.finder.specs.Claims.{FindingsStand, AwaitedInTable}
use Rattle.depths.proofs.Finding.{not_none}
use Rattle.finder.proofs.Ways.{decided_says, opened_decided}
use Rattle.finder.proofs.Typed.{goal_bool}

module _ {U : Type 0} (p : Problem) (K : Unknowns U) (force : ℕ → Bool) (steps : ℕ) where
  -- what a finding says of the m goals from g on
  abbrev pub Says : ℕ → ℕ → Finding U → Type 0
  Says g m (out_of_steps h) = Unit {0}
  Says g m (false_goal h E) =
      (h < g + m) × (force h ≡ true) × (xs : Helds U) × (left : ℕ) × (judge p K (goal p h) steps ≡ some (is 0 xs E, left))
  Says g m (waiting_goal h u) = (h < g + m) × (force h ≡ true) × (left : ℕ) × (judge p K (goal p h) steps ≡ some (waits u, left))
  Says g m all_true =
      (h : ℕ) → g ≤ h → h < g + m → force h ≡ true
      → (c left : ℕ) × (xs : Helds U) × (E : List U) × (judge p K (goal p h) steps ≡ some (is (suc c) xs E, left))

  -- one more goal, which is true or not in force
  says_more : (g m : ℕ) (r : Finding U) → Says (suc g) m r
      → (force g ≡ true → (c left : ℕ) × (xs : Helds U) × (E : List U) × (judge p K (goal p g) steps ≡ some (is (suc c) xs E, left)))
      → Says g (suc m) r
  says_more g m (out_of_steps h) q t = tt
  says_more g m (false_goal h E) q t = let l = q.0 in (omega (arith, l), q.1, q.2, q.3, q.4)
  says_more g m (waiting_goal h u) q t = let l = q.0 in (omega (arith, l), q.1, q.2, q.3)
  says_more g m all_true q t = λ h a b f. go h a b f (cases_order g h)
    where
      go : (h : ℕ) → g ≤ h → h < g + suc m → force h ≡ true → (g ≡ h) ⊎ ((g < h) ⊎ (h < g))
          → (c left : ℕ) × (xs : Helds U) × (E : List U) × (judge p K (goal p h) steps ≡ some (is (suc c) xs E, left))
      go h a b f (inl e) =
          subst (λ x. (c left : ℕ) × (xs : Helds U) × (E : List U) × (judge p K (goal p x) steps ≡ some (is (suc c) xs E, left))) e
          (t (subst (λ x. force x ≡ true) (sym e) f))
      go h a b f (inr (inl l)) = q h (omega (arith, l)) (omega (arith, b)) f
      go h a b f (inr (inr l)) = absurd (omega (arith, a, l))

  says_waiting : (g m : ℕ) (u : U) (left : ℕ) → force g ≡ true → judge p K (goal p g) steps ≡ some (waits u, left)
      → (r : Finding U) → Says (suc g) m r → Says g (suc m) (after_waiting g u r)
  says_waiting g m u left f e (out_of_steps h) q = tt
  says_waiting g m u left f e (false_goal h E) q = let l = q.0 in (omega (arith, l), q.1, q.2, q.3, q.4)
  says_waiting g m u left f e (waiting_goal h v) q = (omega arith, f, left, e)
  says_waiting g m u left f e all_true q = (omega arith, f, left, e)

  says_goal : (g m : ℕ) → force g ≡ true → (o : Option (Head U × ℕ)) → judge p K (goal p g) steps ≡ o
      → (r : Finding U) → Says (suc g) m r → Says g (suc m) (after_goal g o r)
  says_goal g m f none e r q = tt
  says_goal g m f (some (is zero xs E, left)) e r q = (omega arith, f, xs, left, e)
  says_goal g m f (some (is (suc c) xs E, left)) e r q = says_more g m r q (λ t. (c, left, xs, E, e))
  says_goal g m f (some (waits u, left)) e r q = says_waiting g m u left f e r q

  pub finding_says : (g m : ℕ) → Says g m (finding_from p K force steps g m)
  finding_says g zero = λ h a b f. absurd (omega (arith, a, b))
  finding_says g (suc m) = go (force g) refl (finding_says (suc g) m)
    where
      go : (b : Bool) → force g ≡ b → Says (suc g) m (finding_from p K force steps (suc g) m)
          → Says g (suc m)
          (cond b (after_goal g (judge p K (goal p g) steps) (finding_from p K force steps (suc g) m)) (finding_from p K force steps (suc g) m))
      go true f q = says_goal g m f (judge p K (goal p g) steps) refl (finding_from p K force steps (suc g) m) q
      go false f q = says_more g m (finding_from p K force steps (suc g) m) q (λ t. absurd (both_ways (force g) f t))

pub findings_stand_lem : FindingsStand
findings_stand_lem p T w force steps L =
    record {
      when_false = λ g E e.
          let q = subst (Says p K force steps 0 n) e says in
          let l = q.0 in
          (omega (arith, l), q.1, record { steps = steps; left = q.3; args = q.2; judged = q.4 });
      when_waiting = λ g u e.
          let q = subst (Says p K force steps 0 n) e says in
          let l = q.0 in
          (omega (arith, l), q.1, record { steps = steps; left = q.2; judged = q.3 });
      when_true = λ e g l f.
          let q = subst (Says p K force steps 0 n) e says g (omega arith) (omega (arith, l)) f in
          let b = goal_bool p L (decided p T w) (λ u c d. (decided_says p T w u c d).2) g l steps q.1 (suc q.0) q.2 q.3 q.4 in
          (q.2, q.3, q.1, q.4 ∙ ap (λ c. some (is (suc c) q.2 q.3, q.1)) (zero_only q.0 b));
    }
  where
    K : Unknowns Path
    K = under p (decided p T w)

    n : ℕ
    n = length p.goals

    says : Says p K force steps 0 n (finding p K force steps)
    says = finding_says p K force steps 0 n

    zero_only : (c : ℕ) → suc c < 2 → c ≡ 0
    zero_only c l = omega (arith, l)

-- what is reached by the decision of a way is in the table
pub reached_in_table : (p : Problem) (T : Table) (count : ℕ) (w : Way) → Tabled p T count → (u : Path) → Reached (decided p T w) u
    → Exists (sig_of p) u → u ∈ paths T
reached_in_table p T count w tab (root k) r x = tab.roots k x
reached_in_table p T count w tab (child u c j) r x =
    let q = decided_says p T w u c r.0 in
    tab.kids u q.0 c j q.1 q.2 x.0

pub awaited_in_table : AwaitedInTable
awaited_in_table p T R count w g u L l tab fine a =
    let q = goal_waits p L (decided p T w) g u a in
    (reached_in_table p T count w tab u q.1 q.2, go q.0 (opening T u) refl)
  where
    go : decided p T w u ≡ none → (o : Option ℕ) → opening T u ≡ o → opening T u ≡ none
    go d none e = e
    go d (some b) e = not_none d (opened_decided p T R w fine u b e).1
