-- The walk over the constructors of a type: an item that has no undeclared type is passed, and
-- the first that has one stops the walk.
use Rattle.std.proofs.Common.{◌≡◌, ℕ, ◌+◌, ◌<◌, ◌≤◌, List, map, length, get_or, drop, Some, None, sym, refl, ap, ◌∙◌}
use Rattle.syntax.specs.declared.tables.TypeList.{TypeList}
use Rattle.syntax.specs.Tables.{listed}
use Rattle.syntax.proofs.Entries.{no_list}
use Rattle.declarations.specs.Numbers.{Number, in_list, in_cases, first_from}
use Rattle.declarations.proofs.First.{passes, stops, ends}

module _ (n : ℕ) (cs : List TypeList) (i p : ℕ) where
  of_cases : ℕ → List TypeList → List Number
  of_cases q xs = in_cases q (map listed xs)

  one_case : ℕ → TypeList → List Number
  one_case q x = in_list (q + 1) (listed x)

  pub cases_pass : i < length cs → (ts : List ℕ) → ts ≡ listed (get_or cs i no_list) → None ≡ first_from n (in_list (p + 1) ts)
      → first_from n (in_cases p (map listed (drop i cs))) ≡ first_from n (in_cases (p + (1 + length ts)) (map listed (drop (i + 1) cs)))
  unfolding of_cases one_case
  cases_pass h ts e f =
      passes n of_cases one_case (λ x. 1 + length (listed x)) (λ q. refl) (λ q x xs. refl) cs i p no_list h
      (sym (f ∙ ap (λ us. first_from n (in_list (p + 1) us)) e))
      ∙ ap (λ us. first_from n (in_cases (p + (1 + length us)) (map listed (drop (i + 1) cs)))) (sym e)

  pub cases_stop : i < length cs → (ts : List ℕ) → ts ≡ listed (get_or cs i no_list) → (q : ℕ) → Some q ≡ first_from n (in_list (p + 1) ts)
      → first_from n (in_cases p (map listed (drop i cs))) ≡ Some q
  unfolding of_cases one_case
  cases_stop h ts e q f =
      stops n of_cases one_case (λ x. 1 + length (listed x)) (λ q. refl) (λ q x xs. refl) cs i p no_list h q
      (sym (f ∙ ap (λ us. first_from n (in_list (p + 1) us)) e))

  pub cases_end : length cs ≤ i → first_from n (in_cases p (map listed (drop i cs))) ≡ None
  unfolding of_cases one_case
  cases_end h = ends n of_cases one_case (λ x. 1 + length (listed x)) (λ q. refl) (λ q x xs. refl) cs i p h
