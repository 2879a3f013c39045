-- What an examination leaves in its tables is what the problem says: the records and the problem have one layout. Assumes nothing.
use Rattle.std.proofs.Common.{◌≡◌, ℕ, zero, suc, ◌+◌, ◌≤◌, List, [], ◌∷◌, map, length, get_or, take, is_ok, Ok, vec_items, sym, refl, ap, ◌∙◌, subst, arith}
use Rattle.syntax.specs.declared.tables.Datatype.{Datatype}
use Rattle.syntax.specs.declared.tables.Callable.{Callable}
use Rattle.syntax.specs.declared.tables.Span.{Span}
use Rattle.syntax.specs.declared.tables.Signature.{Signature}
use Rattle.syntax.specs.Tables.{cases_in, profile_in, declared_in}
use Rattle.syntax.specs.Terms.{Term}
use Rattle.syntax.specs.Typing.{Sig, Profile, cases_of}
use Rattle.syntax.specs.Problems.{Function, Problem, Each, bool, concat, encode_function, encode_unknown, encode_goal, encode_problem}
use Rattle.records.specs.Raw.{Raw, RawFunction, write_function, write_goal, Few}
use Rattle.tables.specs.declared.filling.Counts.{Counts}
use Rattle.tables.specs.Tabled.{places_of, body_at, term_at, functions_start, goals_start, declared_by}
use Rattle.reading.specs.Reading.{reading}
use Rattle.reading.proofs.Verdicts.{reading_is_exact_lem}
use Rattle.depths.specs.Least.{Leasts}
use Rattle.verdict.specs.Verdict.{verdict, problem_in, term_in, bodies_in, goals_in, terms_in}
use Rattle.verdict.specs.declared.workspace.Workspace.{Workspace}
use Rattle.verdict.specs.Examined.{Accepted}
use Rattle.records.proofs.Results.{was_ok}
use Rattle.verdict.proofs.Results.{term_was}
use Rattle.verdict.proofs.Bodies.{with_body, bodies_sound}
use Rattle.kept.specs.Layout.{read_from, sig_from, body_from, goal_from, body_places, goal_places}
use Rattle.kept.specs.Filled.{Filled, Holds, Fronts}
use Rattle.kept.specs.declared.record_tables.Tables.{Tables}
use Rattle.kept.proofs.Records.{same_bytes, same_profiles}

-- the bodies of functions that were read stand where their records say
bodies_same : (sig : Sig) (rs : List RawFunction) (p : ℕ) (fs : List Function) → bodies_in sig rs p ≡ Ok fs
    → (q : ℕ) → places_of body_at write_function q rs ≡ places_of body_from encode_function q fs
bodies_same sig [] p fs e q =
    let none : [] ≡ fs = cc in
    ap (places_of body_from encode_function q) none
bodies_same sig (r ∷ rs) p fs e q =
    let one = was_ok (term_in (reading sig r.profile.params r.profile.result (body_at p r) r.body)) _ e in
    let two = was_ok (bodies_in sig rs (p + length (write_function r))) _ one.2 in
    let has = (reading_is_exact_lem sig r.profile.params r.profile.result (body_at p r) r.body one.0).sound (term_was _ one.1) in
    let f = with_body r one.0 in
    let last = two.2 in
    let all : (f ∷ two.0) ≡ fs = cc in
    let long : length (write_function r) ≡ length (encode_function f) =
    ap (λ b. length (write_function (record { profile = r.profile; body = b }))) (sym has.1) in
    ap (λ k. body_from q f ∷ places_of body_at write_function (q + k) rs) long
    ∙ ap (λ ks. body_from q f ∷ ks) (bodies_same sig rs (p + length (write_function r)) two.0 two.1 (q + length (encode_function f)))
    ∙ ap (places_of body_from encode_function q) all

goals_same : (sig : Sig) (rs : List (List ℕ)) (p : ℕ) (gs : List Term) → goals_in sig rs p ≡ Ok gs
    → (q : ℕ) → places_of term_at write_goal q rs ≡ places_of goal_from encode_goal q gs
goals_same sig [] p gs e q =
    let none : [] ≡ gs = cc in
    ap (places_of goal_from encode_goal q) none
goals_same sig (r ∷ rs) p gs e q =
    let one = was_ok (term_in (reading sig [] 0 (term_at p r) r)) _ e in
    let two = was_ok (goals_in sig rs (p + length (write_goal r))) _ one.2 in
    let has = (reading_is_exact_lem sig [] 0 (term_at p r) r one.0).sound (term_was _ one.1) in
    let last = two.2 in
    let all : (one.0 ∷ two.0) ≡ gs = cc in
    let long : length (write_goal r) ≡ length (encode_goal one.0) = ap (λ b. length (write_goal b)) (sym has.1) in
    ap (λ k. (q + 4) ∷ places_of term_at write_goal (q + k) rs) long
    ∙ ap (λ ks. (q + 4) ∷ ks) (goals_same sig rs (p + length (write_goal r)) two.0 two.1 (q + length (encode_goal one.0)))
    ∙ ap (places_of goal_from encode_goal q) all

parts : {X Y Z : Type 0} (g : X → Y) (h : Y → Z) (xs : List X) → map (λ x. h (g x)) xs ≡ map h (map g xs)
parts g h [] = refl
parts g h (x ∷ xs) = ap (λ ys. h (g x) ∷ ys) (parts g h xs)

few_in : (tys : List (List (List ℕ))) → Each (λ cs. (1 ≤ length cs) × (length cs ≤ 16) × Each Few cs) tys → (t : ℕ) → length (get_or (bool ∷ tys) t []) ≤ 16
few_in tys h zero = omega arith
few_in [] h (suc t) = omega arith
few_in (cs ∷ tys) h (suc zero) = h.0.1
few_in (cs ∷ tys) h (suc (suc t)) = few_in tys h.1 (suc t)

-- What the problem of some records has in common with them.
record Laid (r : Raw) (p : Problem) : Type 0 where
  types : p.types ≡ r.types
  unknowns : p.unknowns ≡ r.unknowns
  profiles : map (λ f. f.profile) p.functions ≡ map (λ f. f.profile) r.functions
  bodies : places_of body_at write_function (functions_start r) r.functions ≡ body_places p
  goals : places_of term_at write_goal (goals_start r) r.goals ≡ goal_places p

laid : (r : Raw) (p : Problem) → terms_in r ≡ Ok p → Laid r p
laid r p e =
    let one = was_ok (bodies_in (declared_by r) r.functions (functions_start r)) _ e in
    let two = was_ok (goals_in (declared_by r) r.goals (goals_start r)) _ one.2 in
    let fs = one.0 in
    let gs = two.0 in
    let bodies = bodies_sound (declared_by r) r.functions (functions_start r) fs one.1 in
    let last = two.2 in
    let same : record { types = r.types; functions = fs; unknowns = r.unknowns; goals = gs } ≡ p = cc in
    let start : goals_start r ≡ functions_start r + length (concat encode_function fs) + length (concat encode_unknown r.unknowns) =
    ap (λ bs. functions_start r + length bs + length (concat encode_unknown r.unknowns)) (sym bodies.bytes) in
    subst (Laid r) same (record {
      types = refl;
      unknowns = refl;
      profiles = bodies.profiles;
      bodies = bodies_same (declared_by r) r.functions (functions_start r) fs one.1 (functions_start r);
      goals =
          ap (λ q. places_of term_at write_goal q r.goals) start
          ∙ goals_same (declared_by r) r.goals (goals_start r) gs two.1 (functions_start r + length (concat encode_function fs) + length (concat encode_unknown r.unknowns));
    })

is_read : (bs : List ℕ) (p : Problem) → verdict bs ≡ Ok p → read_from bs ≡ p
unfolding read_from
is_read bs p e = ap problem_in e

pub filled : (bs : List ℕ) (w : Workspace) (n : Counts) → Accepted bs w.tables.types w.tables.functions w.tables.unknowns w.tables.goals w.least n
    → Filled bs (take n.types w.tables.types) (take n.functions w.tables.functions) (take n.unknowns w.tables.unknowns) (take n.goals w.tables.goals) (take n.types w.least)
filled bs w n a =
    let r = a.raw in
    let p = a.problem in
    let is = is_read bs p a.is in
    let l = subst (Laid r) (sym is) (laid r p a.terms) in
    let d = a.tabled.declares in
    let at = a.tabled.locates in
    let fs = take n.functions w.tables.functions in
    let profiles : map profile_in fs ≡ map (λ f. f.profile) (read_from bs).functions = d.of_functions ∙ sym l.profiles in
    let all = ap (λ ts. bool ∷ ts) (sym l.types) in
    let sigs : declared_by r ≡ sig_from bs =
    ap (λ ts. record { types = ts; functions = map (λ f. f.profile) r.functions; unknowns = r.unknowns }) all
    ∙ ap (λ ps. record { types = (sig_from bs).types; functions = ps; unknowns = r.unknowns }) (sym l.profiles)
    ∙ ap (λ us. record { types = (sig_from bs).types; functions = (sig_from bs).functions; unknowns = us }) (sym l.unknowns) in
    let size = ap length a.tabled.written in
    let low = a.tabled.within.short in
    record {
      short = omega arith;
      accepted = ap is_ok a.is;
      written = ap encode_problem is ∙ same_bytes r p a.terms ∙ a.tabled.written;
      of_types = d.of_types ∙ all;
      few_cases = λ t. subst (λ (s : Sig). length (cases_of s t) ≤ 16) sigs (few_in r.types a.tabled.within.of_types t);
      of_params =
          parts profile_in (λ (q : Profile). q.params) fs ∙ ap (map (λ (q : Profile). q.params)) profiles
          ∙ sym (parts (λ f. f.profile) (λ (q : Profile). q.params) (read_from bs).functions);
      of_results =
          parts profile_in (λ (q : Profile). q.result) fs ∙ ap (map (λ (q : Profile). q.result)) profiles
          ∙ sym (parts (λ f. f.profile) (λ (q : Profile). q.result) (read_from bs).functions);
      of_bodies = at.bodies_at ∙ l.bodies;
      of_unknowns = d.of_unknowns ∙ sym l.unknowns;
      of_goals = at.goals_at ∙ l.goals;
      of_least = subst (λ s. Leasts s (take n.types w.least)) sigs a.leasts;
    }

-- the declarations that filled tables make
pub declared_same : (s : Signature) (bs : List ℕ) (types : List Datatype) (functions : List Callable) (unknowns : List ℕ) (goals : List Span) (least : List ℕ)
    → Filled bs types functions unknowns goals least → s.types.now ≡ types → s.functions.now ≡ functions → s.unknowns.now ≡ unknowns
    → declared_in s ≡ sig_from bs
declared_same s bs types functions unknowns goals least h ts fs us =
    let profiles = ap (map profile_in) fs ∙ same_profiles functions (read_from bs).functions h.of_params h.of_results in
    ap (λ x. record { types = x; functions = map profile_in s.functions.now; unknowns = s.unknowns.now }) (ap (map cases_in) ts ∙ h.of_types)
    ∙ ap (λ x. record { types = (sig_from bs).types; functions = x; unknowns = s.unknowns.now }) profiles
    ∙ ap (λ x. record { types = (sig_from bs).types; functions = (sig_from bs).functions; unknowns = x }) (us ∙ h.of_unknowns)

-- copies of the fronts of examined tables
pub holds_fronts : (bs : List ℕ) (w : Workspace) (n : Counts) (t : Tables) → Accepted bs w.tables.types w.tables.functions w.tables.unknowns w.tables.goals w.least n → Fronts w n t → Holds bs t
holds_fronts bs w n t a f =
    let h = filled bs w n a in
    let h₁ = subst (λ x. Filled bs x (take n.functions w.tables.functions) (take n.unknowns w.tables.unknowns) (take n.goals w.tables.goals) (take n.types w.least)) (sym f.of_types) h in
    let h₂ = subst (λ x. Filled bs (vec_items t.types) x (take n.unknowns w.tables.unknowns) (take n.goals w.tables.goals) (take n.types w.least)) (sym f.of_functions) h₁ in
    let h₃ = subst (λ x. Filled bs (vec_items t.types) (vec_items t.functions) x (take n.goals w.tables.goals) (take n.types w.least)) (sym f.of_unknowns) h₂ in
    let h₄ = subst (λ x. Filled bs (vec_items t.types) (vec_items t.functions) (vec_items t.unknowns) x (take n.types w.least)) (sym f.of_goals) h₃ in
    subst (λ x. Filled bs (vec_items t.types) (vec_items t.functions) (vec_items t.unknowns) (vec_items t.goals) x) (sym f.of_least) h₄
