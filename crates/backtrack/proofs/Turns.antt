-- One turn of the search: a decision, a step back from a clash, or the end; and why the search ends.
use Rattle.std.proofs.Common.{◌≡◌, ℕ, ◌-◌, ◌*◌, ◌/◌, ◌^◌, ◌<◌, ◌≤◌, Bool, true, cond, ◌&&◌, eqb, ltb, List, [], ◌∷◌, ◌++◌, length, get_or, set, sym, refl, ap, ◌∙◌, ⊎_elim, arith, append_assoc, length-append, length-set}
use Rattle.std.proofs.lemmas.Bool.{cases_eq, cases_lt, cond-true, cond-false, eq-eqb, ne_eqb, and_from}
use Rattle.std.proofs.lemmas.List.{get_or_past, map-append, length-map}
use Rattle.chooser.specs.Ways.{lit, every, allotted, written}
use Rattle.rows.specs.Rows.{inside, holds}
use Rattle.rows.specs.Lits.{opposite}
use Rattle.rows.proofs.Lits.{lit_same, every_same, bits_from, opposite_variable}
use Rattle.rows.proofs.Rows.{holds_same}
use Rattle.weight.specs.Weight.{weight, digits}
use Rattle.weight.proofs.Rises.{pushes, jumps, bounded}
use Rattle.backtrack.specs.Values.{Opened, bit}
use Rattle.backtrack.specs.Trail.{marks, digit_of, Trail, Undone}
use Rattle.backtrack.specs.Solved.{allowed, Hit}
use Rattle.backtrack.specs.declared.trail.Step.{Step}
use Rattle.backtrack.specs.declared.trail.Step.TheVariants.{Decided, Follows}
use Rattle.backtrack.proofs.Values.{opens_most}
use Rattle.backtrack.proofs.Trails.{trail_push, room}

pub trail_start : (X : (ℕ → Bool) → Bool) (values : List ℕ) → ((k : ℕ) → k < length values → get_or values k 0 ≡ 2) → Trail X values []
trail_start X values all =
    record {
      small = λ k. ⊎_elim (λ lt. omega (arith, all k lt)) (λ ge. omega (arith, get_or_past values k 0 ge)) (cases_lt k (length values));
      witness = λ k lt ne. absurd (ne (all k lt));
      named = refl;
      counted = omega (arith, opens_most values);
      sound = tt;
    }

-- the weight of the steps, of which there are at most n
abbrev pub load : ℕ → List Step → ℕ
load n steps = weight n (marks steps)

marks_digits : (steps : List Step) → digits (marks steps) ≡ true
marks_digits [] = refl
marks_digits (Decided l ∷ ss) = and_from (ltb 1 3) (digits (marks ss)) refl (marks_digits ss)
marks_digits (Follows l ∷ ss) = and_from (ltb 2 3) (digits (marks ss)) refl (marks_digits ss)

digit_positive : (s : Step) → 0 < digit_of s
digit_positive (Decided l) = omega arith
digit_positive (Follows l) = omega arith

weight_more : (v : ℕ) (ds es : List ℕ) → weight v ds ≤ weight v (ds ++ es)
weight_more v [] es = omega arith
weight_more v (d ∷ ds) es = omega (arith, weight_more (v - 1) ds es)

load_more : (n : ℕ) (steps more : List Step) → load n steps ≤ load n (steps ++ more)
load_more n steps more = omega (arith, weight_more n (marks steps) (marks more), ap (weight n) (map-append digit_of steps more))

load_push : (n : ℕ) (steps : List Step) (s : Step) → length steps < n → load n steps < load n (steps ++ (s ∷ []))
load_push n steps s lt =
    omega (arith, pushes n (digit_of s) (marks steps) (omega (arith, length-map steps digit_of)) (digit_positive s), ap (weight n) (map-append digit_of steps (s ∷ [])))

load_rises : (n : ℕ) (steps more : List Step) → length (steps ++ more) ≤ n → (more ≡ [] → ⊥) → load n steps < load n (steps ++ more)
load_rises n steps [] le some-more = absurd (some-more refl)
load_rises n steps (s ∷ ss) le some-more =
    let first = load_push n steps s (omega (arith, length-append steps (s ∷ ss))) in
    omega (arith, load_more n (steps ++ (s ∷ [])) ss, ap (load n) (append_assoc steps (s ∷ []) ss))

load_jump : (n : ℕ) (steps behind : List Step) (l k : ℕ) → length (steps ++ (Decided l ∷ behind)) ≤ n → load n (steps ++ (Decided l ∷ behind)) < load n (steps ++ (Follows k ∷ []))
load_jump n steps behind l k le =
    omega (
      arith,
      jumps n (marks steps) (marks behind) (omega (arith, length-map steps digit_of, length-map behind digit_of, length-append steps (Decided l ∷ behind))) (marks_digits behind),
      ap (weight n) (map-append digit_of steps (Decided l ∷ behind)),
      ap (weight n) (map-append digit_of steps (Follows k ∷ [])),
    )

module _ (X : (ℕ → Bool) → Bool) where
  -- a heavier trail is nearer to the bound
  falls : (values : List ℕ) (steps : List Step) (n was : ℕ) → Trail X values steps → length values ≡ n → was < load n steps → 3 ^ n - load n steps < 3 ^ n - was
  falls values steps n was t size up =
      let c = t.counted in
      let top = bounded n (marks steps) (omega (arith, length-map steps digit_of)) (marks_digits steps) in
      omega arith

  module _ (start : List Step) (values : List ℕ) (steps more : List Step) (n : ℕ) (size : length values ≡ n) (goes : Trail X values steps) (grown : steps ≡ start ++ more) where
    long : length (start ++ more) ≤ n
    long = let c = goes.counted in omega (arith, ap length grown)

    pub moved_less : (more ≡ [] → ⊥) → 3 ^ n - load n steps < 3 ^ n - load n start
    moved_less some-more = falls values steps n (load n start) goes size (omega (arith, load_rises n start more long some-more, ap (load n) grown))

    module _ (l : ℕ) (h : Opened values l) where
      pub open_again : Trail X (set values (l / 2) (bit l)) (steps ++ (Decided l ∷ []))
      open_again = trail_push X values steps goes (Decided l) h tt

      pub open_less : 3 ^ n - load n (steps ++ (Decided l ∷ [])) < 3 ^ n - load n start
      open_less =
          falls (set values (l / 2) (bit l)) (steps ++ (Decided l ∷ [])) n (load n start) open_again (length-set values (l / 2) (bit l) ∙ size)
          (omega (arith, load_more n start more, ap (load n) grown, load_push n steps (Decided l) (omega (arith, room X values steps goes l h))))

    -- the last decision was taken back, and its opposite follows
    module _ (out : List ℕ) (left : List Step) (l : ℕ) (u : Undone X steps out left l) where
      pub opened_again : Opened out (opposite l)
      opened_again =
          let o = u.opened in
          let same = opposite_variable l in
          (let a = o.0 in omega arith, ap (λ k. get_or out k 0) same ∙ o.1)

      pub clash_again : Trail X (set out (opposite l / 2) (bit (opposite l))) (left ++ (Follows (opposite l) ∷ []))
      clash_again = trail_push X out left u.goes (Follows (opposite l)) opened_again u.flips

      pub clash_less : length out ≡ n → 3 ^ n - load n (left ++ (Follows (opposite l) ∷ [])) < 3 ^ n - load n start
      clash_less long-out =
          let whole : length (left ++ (Decided l ∷ u.behind)) ≤ n = let c = goes.counted in omega (arith, ap length u.was) in
          falls (set out (opposite l / 2) (bit (opposite l))) (left ++ (Follows (opposite l) ∷ [])) n (load n start) clash_again (length-set out (opposite l / 2) (bit (opposite l)) ∙ long-out)
          (omega (arith, load_more n start more, ap (load n) grown, ap (load n) u.was, load_jump n left u.behind l (opposite l) whole))

-- the values once each open variable has the value 0
module _ (row assumptions values out : List ℕ) (size : length out ≡ length values) (small : (k : ℕ) → get_or values k 0 ≤ 2)
    (done : (k : ℕ) → get_or out k 0 ≡ cond (eqb (get_or values k 0) 2) 0 (get_or values k 0)) where
  done_open : (k : ℕ) → get_or values k 0 ≡ 2 → get_or out k 0 ≡ 0
  done_open k e = done k ∙ cond-true (eqb (get_or values k 0) 2) 0 (get_or values k 0) (eq-eqb (get_or values k 0) 2 e)

  done_kept : (k : ℕ) → (get_or values k 0 ≡ 2 → ⊥) → get_or out k 0 ≡ get_or values k 0
  done_kept k ne = done k ∙ cond-false (eqb (get_or values k 0) 2) 0 (get_or values k 0) (ne_eqb (get_or values k 0) 2 ne)

  same_way : (k : ℕ) → written out k ≡ written values k
  same_way k = ⊎_elim (λ e. ap (λ x. eqb x 1) (done_open k e) ∙ sym (ap (λ x. eqb x 1) e)) (λ ne. ap (λ x. eqb x 1) (done_kept k ne)) (cases_eq (get_or values k 0) 2)

  pub finished : inside (length values) 0 row ≡ true → allotted (length values) assumptions ≡ true → allowed row assumptions (written values) ≡ true → Hit row assumptions out
  finished whole named met =
      let lits : (l : ℕ) → l < 2 * length values → lit (written out) l ≡ lit (written values) l = λ l lt. lit_same (written out) (written values) l (same_way (l / 2)) in
      record {
        binary = bits_from out (λ k lt. ⊎_elim (λ e. omega (arith, done_open k e)) (λ ne. let s = small k in omega (arith, done_kept k ne)) (cases_eq (get_or values k 0) 2));
        meets =
            ap (λ b. b && every (lit (written out)) assumptions) (holds_same (lit (written out)) (lit (written values)) (length values) lits row true 0 whole)
            ∙ ap (λ b. holds (lit (written values)) true 0 row && b) (every_same (lit (written out)) (lit (written values)) (length values) lits assumptions named)
            ∙ met;
      }
