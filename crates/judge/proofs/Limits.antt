-- A problem is lawful, so no constructor and no function has over six arguments, and there are at most 16 unknowns.
use Rattle.std.proofs.Common.{ℕ, zero, suc, ◌≤◌, List, [], ◌∷◌, map, length, get_or, arith}
use Rattle.syntax.specs.Typing.{Sig, no_profile, arguments, params_of}
use Rattle.syntax.specs.Problems.{Function, Problem as Meaning, Lawful, LawfulType, LawfulFunction, FewTypes, Each, bool, sig_of}

few_in : (sig : Sig) (cs : List (List ℕ)) (c : ℕ) → Each (FewTypes sig) cs → length (get_or cs c []) ≤ 6
few_in sig [] c e = omega arith
few_in sig (ts ∷ cs) zero e = e.0.0
few_in sig (ts ∷ cs) (suc c) e = few_in sig cs c e.1

few_bool : (c : ℕ) → length (get_or bool c []) ≤ 6
few_bool zero = omega arith
few_bool (suc zero) = omega arith
few_bool (suc (suc c)) = omega arith

few_of : (sig : Sig) (types : List (List (List ℕ))) (t c : ℕ) → Each (LawfulType sig) types → length (get_or (get_or types t []) c []) ≤ 6
few_of sig [] t c e = omega arith
few_of sig (cs ∷ types) zero c e = few_in sig cs c e.0.2
few_of sig (cs ∷ types) (suc t) c e = few_of sig types t c e.1

pub arguments_few : {p : Meaning} → Lawful p → (t c : ℕ) → length (arguments (sig_of p) t c) ≤ 6
arguments_few {p} h zero c = few_bool c
arguments_few {p} h (suc t) c = few_of (sig_of p) p.types t c h.of_types

few_params : (sig : Sig) (fs : List Function) (f : ℕ) → Each (LawfulFunction sig) fs
    → length (get_or (map (λ (g : Function). g.profile) fs) f no_profile).params ≤ 6
few_params sig [] f e = omega arith
few_params sig (g ∷ fs) zero e = e.0.0.0
few_params sig (g ∷ fs) (suc f) e = few_params sig fs f e.1

pub params_few : {p : Meaning} → Lawful p → (f : ℕ) → length (params_of (sig_of p) f) ≤ 6
params_few {p} h f = few_params (sig_of p) p.functions f h.of_functions
