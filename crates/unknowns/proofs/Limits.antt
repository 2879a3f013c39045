-- How few children and unknowns there are: a lawful type has at most 16 constructors of at most six arguments. Assumes nothing.
use Rattle.std.proofs.Common.{refl, ap, ◌∙◌, ◌≡◌, ◌+◌, ℕ, zero, suc, ◌*◌, ◌≤◌, List, [], ◌∷◌, length, get_or, arith}
use Rattle.std.specs.List.{sum_by, range_with_len}
use Rattle.std.proofs.lemmas.List.Sums.{sum_by-cons}
use Rattle.syntax.specs.Typing.{Sig, cases_of}
use Rattle.syntax.specs.Problems.{Problem as Meaning, sig_of, Each, FewTypes, LawfulType, Lawful}
use Rattle.places.specs.Places.{births}

six_each : (sig : Sig) (cs : List (List ℕ)) → Each (FewTypes sig) cs → births cs ≤ 6 * length cs
six_each sig [] e = omega arith
six_each sig (ts ∷ cs) e = let few = e.0.0 in let rest = six_each sig cs e.1 in omega (arith, few, rest)

few_of : (sig : Sig) (types : List (List (List ℕ))) (t : ℕ) → Each (LawfulType sig) types → births (get_or types t []) ≤ 96
few_of sig [] t e = omega arith
few_of sig (cs ∷ types) zero e = let few = e.0.1 in let six = six_each sig cs e.0.2 in omega (arith, few, six)
few_of sig (cs ∷ types) (suc t) e = few_of sig types t e.1

pub births_few : (p : Meaning) → Lawful p → (t : ℕ) → births (cases_of (sig_of p) t) ≤ 96
births_few p L zero = omega arith
births_few p L (suc t) = few_of (sig_of p) p.types t L.of_types

-- children by constructor: the sum that code takes
sum_from : (cs all : List (List ℕ)) (a : ℕ) → ((i : ℕ) → get_or all (a + i) [] ≡ get_or cs i [])
    → sum_by (λ c. length (get_or all c [])) (range_with_len a (length cs)) ≡ births cs
sum_from [] all a same = refl
sum_from (ts ∷ cs) all a same =
    let whole = sum_by-cons (λ c. length (get_or all c [])) a (range_with_len (a + 1) (length cs)) in
    let here = ap length (ap (λ c. get_or all c []) none_more ∙ same 0) in
    let rest = sum_from cs all (a + 1) (λ i. ap (λ c. get_or all c []) (one_more i) ∙ same (suc i)) in
    omega (arith, whole, here, rest)
  where
    none_more : a ≡ a + 0
    none_more = omega arith

    one_more : (i : ℕ) → a + 1 + i ≡ a + suc i
    one_more i = omega arith

pub births_sum : (cs : List (List ℕ)) → sum_by (λ c. length (get_or cs c [])) (range_with_len 0 (length cs)) ≡ births cs
births_sum cs = sum_from cs cs 0 (λ i. ap (λ c. get_or cs c []) (omega arith))
