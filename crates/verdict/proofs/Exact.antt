-- The verdict accepts exactly the encodings of lawful problems: the records are exact, the types are looked at in the sense of
-- values, and the terms are read exactly.
use Rattle.std.proofs.Common.{◌≡◌, ℕ, zero, suc, ◌+◌, ◌<◌, ◌≤◌, List, [], ◌∷◌, ◌++◌, map, length, Some, None, Ok, Err, Option, Result, sym, refl, ap, ◌∙◌, subst, arith}
use Rattle.std.proofs.lemmas.List.{length-map}
use Rattle.syntax.specs.declared.faults.Fault.{Fault}
use Rattle.syntax.specs.declared.faults.Reason.{Reason}
use Rattle.syntax.specs.declared.faults.Reason.TheVariants.{Undeclared, NoValue}
use Rattle.syntax.specs.Terms.{Term, encode}
use Rattle.syntax.specs.Typing.{Sig, Profile, Declared}
use Rattle.syntax.specs.Values.{build, v[], of_type, of[], Shallow}
use Rattle.syntax.specs.Least.{least_of}
use Rattle.syntax.specs.Problems.{Function, Problem, Each, bool, sig_of, concat, encode_type, encode_function, encode_unknown, encode_goal, encode_end, encode_problem, FewTypes, LawfulType, LawfulFunction, LawfulGoal, Lawful}
use Rattle.records.specs.Raw.{Raw, RawFunction, write, write_function, write_goal, Few, Within}
use Rattle.records.specs.Reading.{records}
use Rattle.records.proofs.Results.{never_ok, was_ok, then_ok}
use Rattle.tables.specs.Exact.{Bytes}
use Rattle.tables.specs.Tabled.{declared_by, functions_start, goals_start}
use Rattle.tables.proofs.Exactness.{reading_exact, reads_back}
use Rattle.declarations.specs.Numbers.{undeclared}
use Rattle.declarations.specs.Laws.{AllDeclared}
use Rattle.declarations.proofs.Declared.{undeclared_is_exact_lem}
use Rattle.verdict.specs.Verdict.{deep, unless, types_in, bodies_in, goals_in, terms_in, verdict}
use Rattle.verdict.specs.Exact.{Encodes, OneProblem, VerdictIsExact}
use Rattle.verdict.proofs.Bodies.{TypedBody, AreBodies, bodies_sound, raw_function, bodies_complete, AreGoals, goals_sound, goals_complete}
use Rattle.verdict.proofs.Deep.{shallow_low, low_shallow, none_deep, deep_none}

-- Two facts of each item, joined and taken apart.
pub each_both : {A : Type 0} (P Q R : A → Type 0) → ((x : A) → P x → Q x → R x) → (xs : List A) → Each P xs → Each Q xs → Each R xs
each_both P Q R f [] a b = tt
each_both P Q R f (x ∷ xs) a b = (f x a.0 b.0, each_both P Q R f xs a.1 b.1)

pub each_weaker : {A : Type 0} (P Q : A → Type 0) → ((x : A) → P x → Q x) → (xs : List A) → Each P xs → Each Q xs
each_weaker P Q f [] a = tt
each_weaker P Q f (x ∷ xs) a = (f x a.0, each_weaker P Q f xs a.1)

unless_ok : (o : Option ℕ) (why : Reason) (after : Result (Unit {0}) Fault) {u : Unit {0}} → unless o why after ≡ Ok u → (o ≡ None) × (after ≡ Ok u)
unless_ok None why after e = (refl, e)
unless_ok (Some p) why after e = never_ok e

abbrev pub problem_of : Raw → List Function → List Term → Problem
problem_of r fs gs = record { types = r.types; functions = fs; unknowns = r.unknowns; goals = gs }

module _ (r : Raw) (fs : List Function) (gs : List Term) (within : Within r) (declared : AllDeclared r) (low : deep r ≡ None)
    (bodies : AreBodies (declared_by r) r.functions fs) (goals : AreGoals (declared_by r) r.goals gs) where
  abbrev p : Problem
  p = problem_of r fs gs

  same_sig : declared_by r ≡ sig_of p
  same_sig = ap (λ ps. record { types = bool ∷ r.types; functions = ps; unknowns = r.unknowns }) (sym bodies.profiles)

  abbrev S : Sig
  S = declared_by r

  types_fine : Each (LawfulType S) r.types
  types_fine =
      each_both (λ cs. (1 ≤ length cs) × (length cs ≤ 16) × Each Few cs) (Each (Each (Declared S))) (LawfulType S)
      (λ cs a b. (a.0, a.1, each_both Few (Each (Declared S)) (FewTypes S) (λ ts x y. (x, y)) cs a.2 b))
      r.types within.of_types declared.of_types

  functions_fine : (rs : List RawFunction) (hs : List Function) → map (λ f. f.profile) hs ≡ map (λ f. f.profile) rs
      → Each (λ f. Few f.profile.params) rs → Each (λ f. Each (Declared S) f.profile.params × Declared S f.profile.result) rs
      → Each (TypedBody S) hs → Each (LawfulFunction S) hs
  functions_fine rs [] e a b t = tt
  functions_fine [] (h ∷ hs) e a b t = let z : ◌≡◌ {A = ℕ} 0 1 = cc in absurd (omega arith)
  functions_fine (x ∷ rs) (h ∷ hs) e a b t =
      let same : x.profile ≡ h.profile = cc in
      let rest : map (λ f. f.profile) hs ≡ map (λ f. f.profile) rs = cc in (
        (subst (λ (q : Profile). FewTypes S q.params) same (a.0, b.0.0), subst (λ (q : Profile). Declared S q.result) same b.0.1, t.0),
        functions_fine rs hs rest a.1 b.1 t.1,
      )

  inhabited : (t : ℕ) → Declared S t → Shallow S t 8
  inhabited zero h = record { value = build 0 v[]; of = of_type (omega arith) of[]; low = omega arith }
  inhabited (suc k) h =
      let less : k < length r.types = omega arith in
      let q : 1 + k ≡ suc k = omega arith in
      low_shallow S (suc k) (subst (λ t. least_of S t ≤ 8) q (none_deep S 1 r.types 0 low k less))

  same_bytes : encode_problem p ≡ write r
  same_bytes =
      ap (λ x. concat encode_type r.types ++ (x ++ (concat encode_unknown r.unknowns ++ (concat encode_goal gs ++ encode_end)))) bodies.bytes
      ∙ ap (λ x. concat encode_type r.types ++ (concat write_function r.functions ++ (concat encode_unknown r.unknowns ++ (x ++ encode_end)))) goals.bytes

  pub made : Encodes p (write r)
  made =
      let long = bodies.long in
      let many = goals.long in
      let few = within.few_functions in
      let fewer = within.few_goals in
      let short = within.short in
      record {
        lawful =
            record {
              few_types = within.few_types;
              few_functions = omega arith;
              few_unknowns = within.few_unknowns;
              few_goals = omega arith;
              of_types = subst (λ s. Each (LawfulType s) r.types) same_sig types_fine;
              of_functions =
                  subst (λ s. Each (LawfulFunction s) fs) same_sig
                  (functions_fine r.functions fs bodies.profiles within.of_functions declared.of_functions bodies.typed);
              of_unknowns = subst (λ s. Each (Declared s) r.unknowns) same_sig declared.of_unknowns;
              of_goals = subst (λ s. Each (LawfulGoal s) gs) same_sig goals.typed;
              inhabited = subst (λ s. (t : ℕ) → Declared s t → Shallow s t 8) same_sig inhabited;
              short = subst (λ x. length x ≤ 16384) (sym same_bytes) short;
            };
        is = same_bytes;
      }

-- What a verdict of Ok was come by.
pub record Came (bs : List ℕ) (p : Problem) : Type 0 where
  pub raw : Raw
  pub read : records bs ≡ Ok raw
  pub all_declared : undeclared raw ≡ None
  pub none_deep : deep raw ≡ None
  pub terms : terms_in raw ≡ Ok p

pub came : (bs : List ℕ) (p : Problem) → verdict bs ≡ Ok p → Came bs p
came bs p e =
    let one = was_ok (records bs) _ e in
    let two = was_ok (types_in one.0) _ one.2 in
    let un = unless_ok (undeclared one.0) Undeclared _ two.1 in
    let de = unless_ok (deep one.0) NoValue _ un.1 in
    record { raw = one.0; read = one.1; all_declared = un.0; none_deep = de.0; terms = two.2 }

-- a problem that was read from records that write the bytes is lawful, and they encode it
pub encoded : (bs : List ℕ) (p : Problem) (r : Raw) → write r ≡ bs → Within r → undeclared r ≡ None → deep r ≡ None → terms_in r ≡ Ok p → Encodes p bs
encoded bs p r w within un de e =
    let one = was_ok (bodies_in (declared_by r) r.functions (functions_start r)) _ e in
    let two = was_ok (goals_in (declared_by r) r.goals (goals_start r)) _ one.2 in
    let last = two.2 in
    let same : problem_of r one.0 two.0 ≡ p = cc in
    subst (λ x. Encodes p x) w
    (subst (λ x. Encodes x (write r)) same
    (made r one.0 two.0 within ((undeclared_is_exact_lem r).sound un) de
    (bodies_sound (declared_by r) r.functions (functions_start r) one.0 one.1)
    (goals_sound (declared_by r) r.goals (goals_start r) two.0 two.1)))

sound : (bs : List ℕ) (p : Problem) → Bytes bs → verdict bs ≡ Ok p → Encodes p bs
sound bs p b e =
    let c = came bs p e in
    let r = (reading_exact.exact bs c.raw b).sound c.read in
    encoded bs p c.raw r.0 r.1 c.all_declared c.none_deep c.terms

-- The other way: the records of a problem, with its terms written.
abbrev raw_of : Problem → Raw
raw_of p = record { types = p.types; functions = map raw_function p.functions; unknowns = p.unknowns; goals = map encode p.goals }

profiles_same : (fs : List Function) → map (λ f. f.profile) (map raw_function fs) ≡ map (λ f. f.profile) fs
profiles_same [] = refl
profiles_same (f ∷ fs) = ap (λ ps. f.profile ∷ ps) (profiles_same fs)

functions_same : (fs : List Function) → concat write_function (map raw_function fs) ≡ concat encode_function fs
functions_same [] = refl
functions_same (f ∷ fs) = ap (λ x. encode_function f ++ x) (functions_same fs)

goals_same : (gs : List Term) → concat write_goal (map encode gs) ≡ concat encode_goal gs
goals_same [] = refl
goals_same (g ∷ gs) = ap (λ x. encode_goal g ++ x) (goals_same gs)

each_map : {A B : Type 0} (f : A → B) (P : B → Type 0) (xs : List A) → Each (λ x. P (f x)) xs → Each P (map f xs)
each_map f P [] h = tt
each_map f P (x ∷ xs) h = (h.0, each_map f P xs h.1)

module _ (p : Problem) (l : Lawful p) where
  abbrev R : Raw
  R = raw_of p

  sig_same : declared_by R ≡ sig_of p
  sig_same = ap (λ ps. record { types = bool ∷ p.types; functions = ps; unknowns = p.unknowns }) (profiles_same p.functions)

  bytes_same : write R ≡ encode_problem p
  bytes_same =
      ap (λ x. concat encode_type p.types ++ (x ++ (concat encode_unknown p.unknowns ++ (concat write_goal (map encode p.goals) ++ encode_end)))) (functions_same p.functions)
      ∙ ap (λ x. concat encode_type p.types ++ (concat encode_function p.functions ++ (concat encode_unknown p.unknowns ++ (x ++ encode_end)))) (goals_same p.goals)

  few_in : (cs : List (List ℕ)) → Each (FewTypes (sig_of p)) cs → Each Few cs
  few_in cs h = each_weaker (FewTypes (sig_of p)) Few (λ ts a. a.0) cs h

  within : Within R
  within =
      let longs = length-map p.functions raw_function in
      let manys = length-map p.goals encode in
      let few = l.few_functions in
      let fewer = l.few_goals in
      record {
        few_types = l.few_types;
        few_functions = omega arith;
        few_unknowns = l.few_unknowns;
        few_goals = omega arith;
        of_types =
            each_weaker (LawfulType (sig_of p)) (λ cs. (1 ≤ length cs) × (length cs ≤ 16) × Each Few cs)
            (λ cs a. (a.0, a.1, few_in cs a.2)) p.types l.of_types;
        of_functions =
            each_map raw_function (λ f. Few f.profile.params) p.functions
            (each_weaker (LawfulFunction (sig_of p)) (λ f. Few f.profile.params) (λ f a. a.0.0) p.functions l.of_functions);
        short = subst (λ x. length x ≤ 16384) (sym bytes_same) l.short;
      }

  declared : AllDeclared R
  declared =
      record {
        of_types =
            subst (λ s. Each (Each (Each (Declared s))) p.types) (sym sig_same)
            (each_weaker (LawfulType (sig_of p)) (Each (Each (Declared (sig_of p))))
            (λ cs a. each_weaker (FewTypes (sig_of p)) (Each (Declared (sig_of p))) (λ ts b. b.1) cs a.2) p.types l.of_types);
        of_functions =
            subst (λ s. Each (λ f. Each (Declared s) f.profile.params × Declared s f.profile.result) (map raw_function p.functions)) (sym sig_same)
            (each_map raw_function (λ f. Each (Declared (sig_of p)) f.profile.params × Declared (sig_of p) f.profile.result) p.functions
            (each_weaker (LawfulFunction (sig_of p)) (λ f. Each (Declared (sig_of p)) f.profile.params × Declared (sig_of p) f.profile.result)
            (λ f a. (a.0.1, a.1)) p.functions l.of_functions));
        of_unknowns = subst (λ s. Each (Declared s) p.unknowns) (sym sig_same) l.of_unknowns;
      }

  low : deep R ≡ None
  low =
      deep_none (declared_by (raw_of p)) 1 p.types 0
      (λ k h. let d : 1 + k < length (bool ∷ p.types) = omega arith in
      subst (λ s. least_of s (1 + k) ≤ 8) (sym sig_same) (shallow_low (sig_of p) (1 + k) (l.inhabited (1 + k) d)))

  bodies : (n : ℕ) → bodies_in (declared_by R) (map raw_function p.functions) n ≡ Ok p.functions
  bodies n =
      ap (λ s. bodies_in s (map raw_function p.functions) n) sig_same
      ∙ bodies_complete (sig_of p) p.functions n
      (each_weaker (LawfulFunction (sig_of p)) (TypedBody (sig_of p)) (λ f a. a.2) p.functions l.of_functions)

  goals : (n : ℕ) → goals_in (declared_by R) (map encode p.goals) n ≡ Ok p.goals
  goals n = ap (λ s. goals_in s (map encode p.goals) n) sig_same ∙ goals_complete (sig_of p) p.goals n l.of_goals

  pub accepted : verdict (encode_problem p) ≡ Ok p
  accepted =
      ap verdict (sym bytes_same)
      ∙ (then_ok _ (reads_back (raw_of p) within)
      ∙ (then_ok _ (ap (λ o. unless o Undeclared (unless (deep (raw_of p)) NoValue (Ok tt))) ((undeclared_is_exact_lem (raw_of p)).complete declared)
      ∙ ap (λ o. unless o NoValue (Ok tt)) low)
      ∙ (then_ok _ (bodies (functions_start (raw_of p))) ∙ then_ok _ (goals (goals_start (raw_of p))))))

complete : (bs : List ℕ) (p : Problem) → Encodes p bs → verdict bs ≡ Ok p
complete bs p e = ap verdict (sym e.is) ∙ accepted p e.lawful

pub verdict_is_exact : VerdictIsExact
verdict_is_exact bs p = record { sound = sound bs p; complete = complete bs p }

-- what a check may say of the bytes
pub says_ok : (bs : List ℕ) (p : Problem) → verdict bs ≡ Ok p → Encodes p bs → OneProblem bs
says_ok bs p v e =
    record { problem = p; encodes = e; only = λ q f. let w = complete bs q f in let same : q ≡ p = cc in same }

pub says_err : (bs : List ℕ) (f : Fault) → verdict bs ≡ Err f → (p : Problem) → Encodes p bs → ⊥
says_err bs f v p e = never_ok (sym v ∙ complete bs p e)
