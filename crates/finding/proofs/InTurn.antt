-- Goals judged in turn: with the first goal that waited kept aside, what is found is what the goals ahead and it come to.
use Rattle.std.proofs.Common.{◌≡◌, ℕ, zero, suc, ◌+◌, ◌-◌, ◌<◌, ◌≤◌, Bool, true, false, cond, ◌||◌, List, length, get_or, take, length-take, Some, None, Option, refl, sym, ap, ◌∙◌, subst, add-one, arith}
use Rattle.std.specs.Option.{option_or}
use Rattle.std.proofs.lemmas.List.{get_or-take}
use mathlib.Core.Option.{Option as Maybe, none, some}
use Rattle.syntax.specs.Problems.{Problem}
use Rattle.judging.specs.Held.{goal}
use Rattle.judging.specs.Judging.{Unknowns, Head, is, waits, judge}
use Rattle.held.specs.Explanations.{contains, member}
use Rattle.judge.specs.declared.verdicts.Judgement.TheVariants.{False, True, Out, Waiting}
use Rattle.judge.specs.Outcomes.{outcome, Explained}
use Rattle.judge.specs.Means.{Explains}
use Rattle.finder.specs.Findings.{Finding, out_of_steps, false_goal, waiting_goal, all_true, after_waiting, after_goal, finding_from, finding}
use Rattle.unknowns.specs.Force.{forced}

-- the whole, with the unknown of the first goal that waited, and what the goals ahead come to
abbrev pub InTurn : Option ℕ → Finding ℕ → Finding ℕ → Type 0
InTurn None whole rest = whole ≡ rest
InTurn (Some u) whole rest = (h : ℕ) × (whole ≡ after_waiting h u rest)

module _ (p : Problem) (K : Unknowns ℕ) (force : ℕ → Bool) (steps : ℕ) where
  abbrev pub ahead : ℕ → ℕ → Finding ℕ
  ahead n g = finding_from p K force steps g (n - g)

  not_forced : (n g : ℕ) → g < n → force g ≡ false → ahead n g ≡ ahead n (g + 1)
  not_forced n g l f =
      let more : n - g ≡ suc (n - suc g) = omega (arith, l) in
      rw add-one (ap (finding_from p K force steps g) more ∙ go)
    where
      go : finding_from p K force steps g (suc (n - suc g)) ≡ finding_from p K force steps (suc g) (n - suc g)
      go =
          ap
          (λ b. cond b (after_goal g (judge p K (goal p g) steps) (finding_from p K force steps (suc g) (n - suc g))) (finding_from p K force steps (suc g) (n - suc g)))
          f

  is_forced : (n g : ℕ) → g < n → force g ≡ true → ahead n g ≡ after_goal g (judge p K (goal p g) steps) (ahead n (g + 1))
  is_forced n g l f =
      let more : n - g ≡ suc (n - suc g) = omega (arith, l) in
      rw add-one (ap (finding_from p K force steps g) more ∙ go)
    where
      go : finding_from p K force steps g (suc (n - suc g)) ≡ after_goal g (judge p K (goal p g) steps) (finding_from p K force steps (suc g) (n - suc g))
      go =
          ap
          (λ b. cond b (after_goal g (judge p K (goal p g) steps) (finding_from p K force steps (suc g) (n - suc g))) (finding_from p K force steps (suc g) (n - suc g)))
          f

  pub at_start : (n : ℕ) → InTurn None (finding_from p K force steps 0 n) (ahead n 0)
  at_start n =
      let all : n ≡ n - 0 = omega arith in
      ap (finding_from p K force steps 0) all

  -- no goal is left
  at_end : (n g : ℕ) (waiting : Option ℕ) (whole : Finding ℕ) → n ≤ g → InTurn waiting whole (ahead n g) → InTurn waiting whole all_true
  at_end n g waiting whole l s =
      let none_left : n - g ≡ 0 = omega (arith, l) in
      subst (InTurn waiting whole) (ap (finding_from p K force steps g) none_left) s

  pub none_waits : (n g : ℕ) (whole : Finding ℕ) → n ≤ g → InTurn None whole (ahead n g) → whole ≡ all_true
  none_waits n g whole l s = at_end n g None whole l s

  pub one_waits : (n g u : ℕ) (whole : Finding ℕ) → n ≤ g → InTurn (Some u) whole (ahead n g) → (h : ℕ) × (whole ≡ waiting_goal h u)
  one_waits n g u whole l s = at_end n g (Some u) whole l s

-- the goal ahead, by what it is judged
module _ (g : ℕ) (rest whole : Finding ℕ) where
  turn_out : (waiting : Option ℕ) (o : Maybe (Head ℕ × ℕ)) → Out ≡ outcome o → InTurn waiting whole (after_goal g o rest) → whole ≡ out_of_steps g
  turn_out None none e s = s
  turn_out (Some u) none e s = s.1
  turn_out w (some (is zero xs E, left)) e s = cc
  turn_out w (some (is (suc c) xs E, left)) e s = cc
  turn_out w (some (waits u, left)) e s = cc

  turn_false : (waiting : Option ℕ) (o : Maybe (Head ℕ × ℕ)) (a b : List ℕ) → False ≡ outcome o → Explained a b o
      → ((u : ℕ) → contains a u ≡ false) → InTurn waiting whole (after_goal g o rest)
      → (E : List ℕ) × (whole ≡ false_goal g E) × Explains b E
  turn_false w none a b e x z s = cc
  turn_false None (some (is zero xs E, left)) a b e x z s =
      (E, s, record { has = λ u l. x.has u l ∙ ap (λ c. c || member E u) (z u) })
  turn_false (Some v) (some (is zero xs E, left)) a b e x z s =
      (E, s.1, record { has = λ u l. x.has u l ∙ ap (λ c. c || member E u) (z u) })
  turn_false w (some (is (suc c) xs E, left)) a b e x z s = cc
  turn_false w (some (waits u, left)) a b e x z s = cc

  turn_true : (waiting : Option ℕ) (o : Maybe (Head ℕ × ℕ)) → True ≡ outcome o → InTurn waiting whole (after_goal g o rest)
      → InTurn waiting whole rest
  turn_true w none e s = cc
  turn_true w (some (is zero xs E, left)) e s = cc
  turn_true w (some (is (suc c) xs E, left)) e s = s
  turn_true w (some (waits u, left)) e s = cc

  -- the first that waits stays
  waits_twice : (h v u : ℕ) (r : Finding ℕ) → after_waiting h v (after_waiting g u r) ≡ after_waiting h v r
  waits_twice h v u (out_of_steps k) = refl
  waits_twice h v u (false_goal k E) = refl
  waits_twice h v u (waiting_goal k x) = refl
  waits_twice h v u all_true = refl

  waits_on : (waiting : Option ℕ) (u : ℕ) → InTurn waiting whole (after_waiting g u rest) → InTurn (option_or waiting (Some u)) whole rest
  waits_on None u s = (g, s)
  waits_on (Some v) u s = (s.0, s.1 ∙ waits_twice s.0 v u rest)

  turn_waits : (waiting : Option ℕ) (o : Maybe (Head ℕ × ℕ)) (u : ℕ) → Waiting u ≡ outcome o → InTurn waiting whole (after_goal g o rest)
      → InTurn (option_or waiting (Some u)) whole rest
  turn_waits w none u e s = cc
  turn_waits w (some (is zero xs E, left)) u e s = cc
  turn_waits w (some (is (suc c) xs E, left)) u e s = cc
  turn_waits w (some (waits v, left)) u e s =
      let same : v ≡ u = cc in
      subst (λ x. InTurn (option_or w (Some x)) whole rest) same (waits_on w v s)

-- One goal of those in force or not: n goals stand in the table of forces, and the goals before g are judged.
module _ (p : Problem) (K : Unknowns ℕ) (fs : List Bool) (steps n g : ℕ) (waiting : Option ℕ) (goals : n ≡ length p.goals)
    (inside : g < length (take n fs)) (so_far : InTurn waiting (finding p K (forced fs) steps) (ahead p K (forced fs) steps (length p.goals) g)) where
  abbrev whole : Finding ℕ
  whole = finding p K (forced fs) steps

  abbrev rest : Finding ℕ
  rest = ahead p K (forced fs) steps (length p.goals) (g + 1)

  abbrev judged : Maybe (Head ℕ × ℕ)
  judged = judge p K (goal p g) steps

  low : g < length p.goals
  low =
      let short = length-take n fs in
      omega (arith, short, goals, inside)

  in_table : (b : Bool) → get_or (take n fs) g false ≡ b → forced fs g ≡ b
  in_table b f =
      let l = low in
      sym (get_or-take n fs g false (omega (arith, l, goals))) ∙ f

  pub passed_over : get_or (take n fs) g false ≡ false → InTurn waiting whole rest
  passed_over f = subst (InTurn waiting whole) (not_forced p K (forced fs) steps (length p.goals) g low (in_table false f)) so_far

  module _ (f : get_or (take n fs) g false ≡ true) where
    now : InTurn waiting whole (after_goal g judged rest)
    now = subst (InTurn waiting whole) (is_forced p K (forced fs) steps (length p.goals) g low (in_table true f)) so_far

    pub found_out : Out ≡ outcome judged → whole ≡ out_of_steps g
    found_out e = turn_out g rest whole waiting judged e now

    pub found_false : (a b : List ℕ) → False ≡ outcome judged → Explained a b judged → ((u : ℕ) → contains a u ≡ false)
        → (E : List ℕ) × (whole ≡ false_goal g E) × Explains b E
    found_false a b e x z = turn_false g rest whole waiting judged a b e x z now

    pub goes_true : True ≡ outcome judged → InTurn waiting whole rest
    goes_true e = turn_true g rest whole waiting judged e now

    pub goes_waiting : (u : ℕ) → Waiting u ≡ outcome judged → InTurn (option_or waiting (Some u)) whole rest
    goes_waiting u e = turn_waits g rest whole waiting judged u e now
