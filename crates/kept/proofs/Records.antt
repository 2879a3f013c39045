-- A problem has the bytes of the records that it was read from, and the tables have its profiles. Assumes nothing.
use Rattle.std.proofs.Common.{◌≡◌, ℕ, List, [], ◌∷◌, ◌++◌, map, Ok, sym, refl, ap, ◌∙◌, arith}
use Rattle.syntax.specs.declared.tables.Callable.{Callable}
use Rattle.syntax.specs.Tables.{listed, profile_in}
use Rattle.syntax.specs.Problems.{Function, Problem, concat, encode_type, encode_unknown, encode_goal, encode_end, encode_problem}
use Rattle.records.specs.Raw.{Raw, write, write_function}
use Rattle.tables.specs.Tabled.{declared_by, functions_start, goals_start}
use Rattle.verdict.specs.Verdict.{bodies_in, goals_in, terms_in}
use Rattle.records.proofs.Results.{was_ok}
use Rattle.verdict.proofs.Bodies.{bodies_sound, goals_sound}

-- terms that are read have the bytes of the records
pub same_bytes : (r : Raw) (p : Problem) → terms_in r ≡ Ok p → encode_problem p ≡ write r
same_bytes r p e =
    let one = was_ok (bodies_in (declared_by r) r.functions (functions_start r)) _ e in
    let two = was_ok (goals_in (declared_by r) r.goals (goals_start r)) _ one.2 in
    let bodies = bodies_sound (declared_by r) r.functions (functions_start r) one.0 one.1 in
    let goals = goals_sound (declared_by r) r.goals (goals_start r) two.0 two.1 in
    let last = two.2 in
    let same : record { types = r.types; functions = one.0; unknowns = r.unknowns; goals = two.0 } ≡ p = cc in
    ap encode_problem (sym same)
    ∙ ap (λ x. concat encode_type r.types ++ (x ++ (concat encode_unknown r.unknowns ++ (concat encode_goal two.0 ++ encode_end)))) bodies.bytes
    ∙ ap (λ x. concat encode_type r.types ++ (concat write_function r.functions ++ (concat encode_unknown r.unknowns ++ (x ++ encode_end)))) goals.bytes

pub same_profiles : (cs : List Callable) (fs : List Function)
    → map (λ f. listed f.params) cs ≡ map (λ f. f.profile.params) fs
    → map (λ f. f.result) cs ≡ map (λ f. f.profile.result) fs
    → map profile_in cs ≡ map (λ f. f.profile) fs
same_profiles [] [] p r = refl
same_profiles [] (f ∷ fs) p r = let z : ◌≡◌ {A = ℕ} 0 1 = cc in absurd (omega arith)
same_profiles (c ∷ cs) [] p r = let z : ◌≡◌ {A = ℕ} 0 1 = cc in absurd (omega arith)
same_profiles (c ∷ cs) (f ∷ fs) p r =
    let params : listed c.params ≡ f.profile.params = cc in
    let result : c.result ≡ f.profile.result = cc in
    let p' : map (λ f. listed f.params) cs ≡ map (λ f. f.profile.params) fs = cc in
    let r' : map (λ f. f.result) cs ≡ map (λ f. f.profile.result) fs = cc in
    let one : profile_in c ≡ f.profile =
    ap (λ x. record { params = x; result = c.result }) params ∙ ap (λ x. record { params = f.profile.params; result = x }) result in
    ap (λ x. x ∷ map profile_in cs) one ∙ ap (λ xs. f.profile ∷ xs) (same_profiles cs fs p' r')
