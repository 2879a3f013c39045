-- What is found by cases is what is found by the paths of the table.
use Rattle.std.proofs.Common.{◌≡◌, ℕ, zero, suc, ◌<◌, Bool, true, cond, List, map, length, Option, refl, sym, ap, ◌∙◌, subst, arith}
use mathlib.Core.Option.{Option as Maybe, none, some}
use Rattle.std.proofs.lemmas.Bool.{eqb-true}
use Rattle.syntax.specs.Problems.{Problem, Lawful}
use Rattle.judging.specs.Held.{goal}
use Rattle.judging.specs.Judging.{Unknowns, judge}
use Rattle.judging.specs.Paths.{under}
use Rattle.judging.proofs.Asked.{only_asked, goal_awaits}
use Rattle.held.specs.Explanations.{contains}
use Rattle.finder.specs.Tables.{width, Table, opening}
use Rattle.finder.specs.Ways.{Way, one_of, how_many, decides_all, case_of, decided}
use Rattle.finder.specs.Findings.{Finding as Found, out_of_steps, false_goal, waiting_goal, all_true, after_goal, finding_from, finding}
use Rattle.finder.proofs.Tables.{opening_entry}
use Rattle.finder.proofs.Findings.{Says, finding_says}
use Rattle.places.specs.Places.{at, entry_at, case_in, places, named_finding}
use Rattle.places.proofs.Openings.{at_entry, entry_in}
use Rattle.places.proofs.Places.{in_range, found_by_places, conflict_by_places}
use Rattle.unknowns.specs.Listing.{row, Stands, DecidesAs}
use Rattle.unknowns.specs.declared.table.Table.{Table as Code}
use Rattle.unknowns.specs.declared.table.Case.{Case}
use Rattle.cases.specs.Cases.{by_cases}
use Rattle.cases.proofs.Counting.{undecided_none}
use Rattle.cases.proofs.Rows.{few, each_one}
use Rattle.cases.proofs.Alike.{cases_alike}
use Rattle.finding.specs.declared.find.Finding.{Finding}
use Rattle.finding.specs.declared.find.Finding.TheVariants.{Out, False, Waiting, True}
use Rattle.finding.specs.Findings.{FindsBy, Finds}

-- the same judgements, the same finding
same_found : (p : Problem) (K L : Unknowns ℕ) (force : ℕ → Bool) (steps : ℕ)
    → ((g : ℕ) → judge p L (goal p g) steps ≡ judge p K (goal p g) steps)
    → (g m : ℕ) → finding_from p L force steps g m ≡ finding_from p K force steps g m
same_found p K L force steps same g zero = refl
same_found p K L force steps same g (suc m) =
    let ih = same_found p K L force steps same (suc g) m in
    λ i. cond (force g) (after_goal g (same g i) (ih i)) (ih i)

module _ (p : Problem) (L : Lawful p) (t : Code) (T : Table) (count : ℕ) (w : Way) (cases : List (Option Case))
    (stands : Stands p t T count) (decides : DecidesAs p t T w cases) (force : ℕ → Bool) (steps : ℕ) where
  abbrev kids : ℕ → ℕ
  kids m = (row t m).kids

  abbrev K : Unknowns ℕ
  K = places p T kids w

  by_places : finding p K force steps ≡ finding p (by_cases cases) force steps
  by_places =
      sym (same_found p K (by_cases cases) force steps
      (λ g. only_asked ℕ p L K (by_cases cases) (cases_alike p t T count w cases stands decides) g steps) 0 (length p.goals))

  by_paths : (f : Found ℕ) → finding p (by_cases cases) force steps ≡ f → finding p (under p (decided p T w)) force steps ≡ named_finding (at T) f
  by_paths f e =
      found_by_places p L T count kids w stands.tabled stands.lists.placed force steps ∙ ap (named_finding (at T)) (by_places ∙ e)

  not_opened : decides_all p w T ≡ true → (i : ℕ) → i < length T → case_in p w (entry_at T i) ≡ none → opening T (at T i) ≡ none
  not_opened all i l e =
      ap (opening T) (at_entry T i) ∙ opening_entry T (entry_at T i) stands.tabled.distinct (entry_in T i l)
      ∙ go (entry_at T i).first (each_one p w T i all l) e
    where
      go : (f : Maybe ℕ) → one_of p w (entry_at T i).path f ≡ true → case_of w (width p (entry_at T i).path) f ≡ none → f ≡ none
      go none one e = refl
      go (some a) one e =
          let z = undecided_none w a (width p (entry_at T i).path) e in
          let o = eqb-true (how_many w a (width p (entry_at T i).path)) 1 one in
          absurd (omega (arith, z, o))

  pub finds : (words : List ℕ) (r : Finding) → decides_all p w T ≡ true → FindsBy p (by_cases cases) force steps words r
      → Finds p T w force steps words r
  finds words (Out g) all e = by_paths (out_of_steps g) e
  finds words True all e = by_paths all_true e
  finds words (False g) all s =
      let E = s.0 in
      let q = subst (Says p K force steps 0 (length p.goals)) (by_places ∙ s.1) (finding_says p K force steps 0 (length p.goals)) in
      let inside = q.0 in
      let c =
      conflict_by_places p L T count kids w stands.tabled stands.lists.placed force steps g E (by_places ∙ s.1) (contains words)
      (λ i l. s.2.has i (let most = few p t T count w stands in omega (arith, l, most))) in
      (map (at T) E, by_paths (false_goal g E) s.1, c.0, c.1, omega (arith, inside))
  finds words (Waiting i) all s =
      let q = subst (Says p K force steps 0 (length p.goals)) (by_places ∙ s.1) (finding_says p K force steps 0 (length p.goals)) in
      let a = goal_awaits ℕ p L K s.0 steps q.2 i q.3 in
      let l = in_range p T count kids w stands.tabled stands.lists.placed a.0 in
      (s.0, by_paths (waiting_goal s.0 i) s.1, l, not_opened all i l a.1)
