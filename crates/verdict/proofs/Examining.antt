-- From the tables back to the bytes: the terms that the tables locate are those of the records, their places are places of the
-- bytes, and so each way an examination can end is the verdict.
use Rattle.std.proofs.Common.{◌≡◌, ℕ, zero, suc, ◌+◌, ◌<◌, ◌≤◌, List, [], ◌∷◌, ◌++◌, map, length, get_or, take, Ok, Err, Result, sym, refl, ap, ◌∙◌, subst, arith, length-append}
use lib.Seq.{take-append-le, take-length}
use Rattle.std.proofs.lemmas.List.{get_or-map, length-map}
use Rattle.syntax.specs.declared.faults.Fault.{Fault}
use Rattle.syntax.specs.declared.tables.Datatype.{Datatype}
use Rattle.syntax.specs.declared.tables.Callable.{Callable}
use Rattle.syntax.specs.declared.tables.Span.{Span}
use Rattle.syntax.specs.declared.tables.Signature.{Signature}
use Rattle.syntax.specs.Tables.{listed, cases_in, profile_in}
use Rattle.syntax.specs.Terms.{Term}
use Rattle.syntax.specs.Typing.{Sig, Profile}
use Rattle.syntax.specs.Problems.{Function, Problem, Each, bool, concat, encode_type, encode_unknown, encode_end}
use Rattle.records.specs.Raw.{Raw, RawFunction, write, write_function, write_goal, Few, Within}
use Rattle.records.specs.Reading.{and_then, records}
use Rattle.records.proofs.Results.{never_ok, then_ok}
use Rattle.tables.specs.Tabled.{places_of, mark_at, body_at, term_at, functions_start, unknowns_start, goals_start, part_in, function_in, declared_by, Declares, Locates}
use Rattle.reading.specs.Reading.{reading}
use Rattle.declarations.specs.Numbers.{Low}
use Rattle.depths.specs.Least.{Leasts}
use Rattle.verdict.specs.Verdict.{term_in, types_in, bodies_in, goals_in, terms_in, verdict}
use Rattle.verdict.specs.ByTables.{fault_of, bodies_by, goals_by, terms_by, FitFunctions}

apart : {A B : Type 0} {x : B} {xs : List B} → ◌≡◌ {A = List B} [] (x ∷ xs) → A
apart e = let z : ◌≡◌ {A = ℕ} 0 1 = cc in absurd (omega arith)

module _ (S : Sig) (bs : List ℕ) where
  -- one function in front of others
  abbrev body_then : RawFunction → ℕ → Result (List Function) Fault → Result (List Function) Fault
  body_then r q k =
      and_then (term_in (reading S r.profile.params r.profile.result q r.body)) (λ t.
      and_then k (λ gs. Ok (record { profile = r.profile; body = t } ∷ gs)))

  pub same_bodies : (fs : List Callable) (rs : List RawFunction) (p : ℕ) → map (function_in bs) fs ≡ rs
      → map (λ f. f.body.start) fs ≡ places_of body_at write_function p rs → bodies_by S bs fs ≡ bodies_in S rs p
  same_bodies [] [] p e f = refl
  same_bodies [] (r ∷ rs) p e f = apart e
  same_bodies (d ∷ ds) [] p e f = apart (sym e)
  same_bodies (d ∷ ds) (r ∷ rs) p e f =
      let same : function_in bs d ≡ r = cc in
      let rest : map (function_in bs) ds ≡ rs = cc in
      let at : d.body.start ≡ body_at p r = cc in
      let later : map (λ x. x.body.start) ds ≡ places_of body_at write_function (p + length (write_function r)) rs = cc in
      ap (λ x. body_then x d.body.start (bodies_by S bs ds)) same
      ∙ (ap (λ q. body_then r q (bodies_by S bs ds)) at
      ∙ ap (body_then r (body_at p r)) (same_bodies ds rs (p + length (write_function r)) rest later))

  abbrev goal_then : List ℕ → ℕ → Result (List Term) Fault → Result (List Term) Fault
  goal_then g q k = and_then (term_in (reading S [] 0 q g)) (λ t. and_then k (λ ts. Ok (t ∷ ts)))

  pub same_goals : (gs : List Span) (rs : List (List ℕ)) (p : ℕ) → map (part_in bs) gs ≡ rs
      → map (λ g. g.start) gs ≡ places_of term_at write_goal p rs → goals_by S bs gs ≡ goals_in S rs p
  same_goals [] [] p e f = refl
  same_goals [] (r ∷ rs) p e f = apart e
  same_goals (d ∷ ds) [] p e f = apart (sym e)
  same_goals (d ∷ ds) (r ∷ rs) p e f =
      let same : part_in bs d ≡ r = cc in
      let rest : map (part_in bs) ds ≡ rs = cc in
      let at : d.start ≡ term_at p r = cc in
      let later : map (λ x. x.start) ds ≡ places_of term_at write_goal (p + length (write_goal r)) rs = cc in
      ap (λ x. goal_then x d.start (goals_by S bs ds)) same
      ∙ (ap (λ q. goal_then r q (goals_by S bs ds)) at ∙ ap (goal_then r (term_at p r)) (same_goals ds rs (p + length (write_goal r)) rest later))

-- Places of items that are written one after another lie within what is written.
places_low : {A : Type 0} (w : A → List ℕ) (p : ℕ) (xs : List A) (k : ℕ) → k < length (places_of mark_at w p xs) → get_or (places_of mark_at w p xs) k 0 ≤ p + length (concat w xs)
places_low w p [] k h = absurd (omega arith)
places_low w p (x ∷ xs) zero h = omega arith
places_low w p (x ∷ xs) (suc k) h =
    let later = places_low w (p + length (w x)) xs k (omega arith) in
    let long = length-append (w x) (concat w xs) in
    omega arith

-- what stands before the functions, the unknowns and the goals is a part of the whole
all_long : (r : Raw) → unknowns_start r ≤ length (write r)
all_long r =
    let one = length-append (concat encode_type r.types) (concat write_function r.functions ++ (concat encode_unknown r.unknowns ++ (concat write_goal r.goals ++ encode_end))) in
    let two = length-append (concat write_function r.functions) (concat encode_unknown r.unknowns ++ (concat write_goal r.goals ++ encode_end)) in
    omega arith

module _ (raw : Raw) (sig : Signature) (start : ℕ) (within : Within raw)
    (h : Declares raw sig.types.now sig.functions.now sig.unknowns.now start) where
  types_low : (k : ℕ) (d : Datatype) → k < length sig.types.now → (get_or sig.types.now k d).at ≤ 16384
  types_low k d l =
      let same = get_or-map (λ x. x.at) sig.types.now k d 0 l ∙ refl in
      let moved = ap (λ xs. get_or xs k 0) h.types_at in
      let long = length-map sig.types.now (λ x. x.at) in
      let counted = ap length h.types_at in
      let short = within.short in
      let all = all_long raw in
      let low : get_or (0 ∷ places_of mark_at encode_type 0 raw.types) k 0 ≤ 16384 = go k (omega arith) in
      omega arith
    where
      go : (k : ℕ) → k < length (0 ∷ places_of mark_at encode_type 0 raw.types) → get_or (0 ∷ places_of mark_at encode_type 0 raw.types) k 0 ≤ 16384
      go zero l = omega arith
      go (suc k) l =
          let low = places_low encode_type 0 raw.types k (omega arith) in
          let short = within.short in
          let all = all_long raw in
          omega arith

  functions_low : (k : ℕ) (d : Callable) → k < length sig.functions.now → (get_or sig.functions.now k d).at ≤ 16384
  functions_low k d l =
      let same = get_or-map (λ x. x.at) sig.functions.now k d 0 l in
      let moved = ap (λ xs. get_or xs k 0) h.functions_at in
      let long = length-map sig.functions.now (λ x. x.at) in
      let counted = ap length h.functions_at in
      let short = within.short in
      let all = all_long raw in
      let low = places_low write_function (functions_start raw) raw.functions k (omega arith) in
      omega arith

  pub low : Low sig start
  low =
      let short = within.short in
      let all = all_long raw in
      let s = h.starts in
      let few = within.few_unknowns in
      let us = ap length h.of_unknowns in
      record { of_types = types_low; of_functions = functions_low; of_unknowns = omega arith; few = omega arith }

few_params : (fs : List Callable) (rs : List RawFunction) → map profile_in fs ≡ map (λ f. f.profile) rs → Each (λ f. Few f.profile.params) rs
    → (k : ℕ) (d : Callable) → k < length fs → length (listed (get_or fs k d).params) ≤ 64
few_params [] rs e f k d l = absurd (omega arith)
few_params (x ∷ fs) [] e f k d l = apart (sym e)
few_params (x ∷ fs) (r ∷ rs) e f zero d l =
    let same : profile_in x ≡ r.profile = cc in
    let few = subst (λ (q : Profile). length q.params ≤ 6) (sym same) f.0 in
    omega arith
few_params (x ∷ fs) (r ∷ rs) e f (suc k) d l =
    let rest : map profile_in fs ≡ map (λ f. f.profile) rs = cc in
    few_params fs rs rest f.1 k d (omega arith)

pub fit_functions : (bs : List ℕ) (raw : Raw) (functions : List Callable) (goals : List Span) → Within raw → Locates bs raw functions goals
    → map profile_in functions ≡ map (λ f. f.profile) raw.functions → FitFunctions bs functions
fit_functions bs raw functions goals within at e = record { inside = at.bodies_inside; few = few_params functions raw.functions e within.of_functions }

abbrev with_terms : Raw → Result (List Function) Fault → Result (List Term) Fault → Result Problem Fault
with_terms r x y = and_then x (λ fs. and_then y (λ gs. Ok (record { types = r.types; functions = fs; unknowns = r.unknowns; goals = gs })))

terms_fault : (r : Raw) (x : Result (List Function) Fault) (y : Result (List Term) Fault) (f : Fault)
    → Err f ≡ fault_of {A = List Function × List Term} (and_then x (λ hs. and_then y (λ ts. Ok (hs, ts)))) → with_terms r x y ≡ Err f
terms_fault r (Ok fs) (Ok gs) f e = never_ok e
terms_fault r (Ok fs) (Err g) f e = let q : g ≡ f = cc in ap Err q
terms_fault r (Err g) y f e = let q : g ≡ f = cc in ap Err q

terms_fine : (r : Raw) (x : Result (List Function) Fault) (y : Result (List Term) Fault)
    → Ok tt ≡ fault_of {A = List Function × List Term} (and_then x (λ hs. and_then y (λ ts. Ok (hs, ts)))) → (p : Problem) × (with_terms r x y ≡ Ok p)
terms_fine r (Ok fs) (Ok gs) e = (record { types = r.types; functions = fs; unknowns = r.unknowns; goals = gs }, refl)
terms_fine r (Ok fs) (Err g) e = never_ok (sym e)
terms_fine r (Err g) y e = never_ok (sym e)

module _ (bs : List ℕ) (raw : Raw) (functions : List Callable) (goals : List Span) (at : Locates bs raw functions goals) (S : Sig) (same : S ≡ declared_by raw) where
  located : with_terms raw (bodies_by S bs functions) (goals_by S bs goals) ≡ terms_in raw
  located =
      ap (λ s. with_terms raw (bodies_by s bs functions) (goals_by s bs goals)) same
      ∙ (ap (λ x. with_terms raw x (goals_by (declared_by raw) bs goals)) (same_bodies (declared_by raw) bs functions raw.functions (functions_start raw) at.of_bodies at.bodies_at)
      ∙ ap (with_terms raw (bodies_in (declared_by raw) raw.functions (functions_start raw))) (same_goals (declared_by raw) bs goals raw.goals (goals_start raw) at.of_goals at.goals_at))

  pub terms_refused : (f : Fault) → Err f ≡ fault_of (terms_by S bs functions goals) → terms_in raw ≡ Err f
  terms_refused f e = sym located ∙ terms_fault raw (bodies_by S bs functions) (goals_by S bs goals) f e

  pub terms_accepted : Ok tt ≡ fault_of (terms_by S bs functions goals) → (p : Problem) × (terms_in raw ≡ Ok p)
  terms_accepted e = let p = terms_fine raw (bodies_by S bs functions) (goals_by S bs goals) e in (p.0, sym located ∙ p.1)

-- the other ways to the verdict
pub by_types : (bs : List ℕ) (raw : Raw) (f : Fault) → records bs ≡ Ok raw → Err f ≡ types_in raw → verdict bs ≡ Err f
by_types bs raw f e t = then_ok (λ r. and_then (types_in r) (λ _. terms_in r)) e ∙ ap (λ x. and_then x (λ _. terms_in raw)) (sym t)

pub by_terms : (bs : List ℕ) (raw : Raw) → records bs ≡ Ok raw → Ok tt ≡ types_in raw → verdict bs ≡ terms_in raw
by_terms bs raw e t = then_ok (λ r. and_then (types_in r) (λ _. terms_in r)) e ∙ ap (λ x. and_then x (λ _. terms_in raw)) (sym t)

-- the front of a table of which the front was written
pub front_written : (n : ℕ) (xs ys : List ℕ) → length xs ≡ n → take n (xs ++ ys) ≡ xs
front_written n xs ys e = ap (λ m. take m (xs ++ ys)) (sym e) ∙ (take-append-le (length xs) xs ys (omega arith) ∙ take-length xs)

-- the declarations that tables hold are those of the records
pub declared_same : (r : Raw) (types : List Datatype) (functions : List Callable) (unknowns : List ℕ) (s : ℕ) → Declares r types functions unknowns s
    → ◌≡◌ {A = Sig} (record { types = map cases_in types; functions = map profile_in functions; unknowns = unknowns }) (declared_by r)
declared_same r types functions unknowns s h =
    ap (λ ts. record { types = ts; functions = map profile_in functions; unknowns = unknowns }) h.of_types
    ∙ (ap (λ fs. record { types = bool ∷ r.types; functions = fs; unknowns = unknowns }) h.of_functions
    ∙ ap (λ us. record { types = bool ∷ r.types; functions = map (λ f. f.profile) r.functions; unknowns = us }) h.of_unknowns)

-- least depths at the front of their table, as many as there are types
pub leasts_front : {A : Type 0} (S T : Sig) (n : ℕ) (ts : List A) (xs : List ℕ) → S ≡ T → length ts ≡ n → Leasts S (take (length ts) xs) → Leasts T (take n xs)
leasts_front S T n ts xs same all h = subst (λ k. Leasts T (take k xs)) all (subst (λ s. Leasts s (take (length ts) xs)) same h)
