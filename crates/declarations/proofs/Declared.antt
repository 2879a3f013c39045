-- No place is named exactly if every type number outside terms names a type: list by list, from the meaning of `first_from`.
use Rattle.std.proofs.Common.{◌≡◌, ℕ, ◌+◌, ◌<◌, Bool, true, false, cond, ltb, List, [], ◌∷◌, ◌++◌, length, Some, None, Option, sym, refl, ap, ◌∙◌, ltb-true, lt-ltb}
use Rattle.syntax.specs.Problems.{Each, encode_type}
use Rattle.records.specs.Raw.{Raw, RawFunction, write_function}
use Rattle.tables.specs.Tabled.{declared_by, functions_start, unknowns_start}
use Rattle.declarations.specs.Numbers.{Number, number, in_list, in_cases, in_types, in_profile, in_functions, in_unknowns, first_from, undeclared}
use Rattle.declarations.specs.Laws.{AllDeclared, UndeclaredIsExact}
use Rattle.declarations.proofs.First.{otherwise, first_joined}

none_of : (o r : Option ℕ) → otherwise o r ≡ None → (o ≡ None) × (r ≡ None)
none_of None r e = (refl, e)
none_of (Some p) r e = cc

both_none : (n : ℕ) (xs ys : List Number) → first_from n (xs ++ ys) ≡ None → (first_from n xs ≡ None) × (first_from n ys ≡ None)
both_none n xs ys e = none_of (first_from n xs) (first_from n ys) (sym (first_joined n xs ys) ∙ e)

none_both : (n : ℕ) (xs ys : List Number) → first_from n xs ≡ None → first_from n ys ≡ None → first_from n (xs ++ ys) ≡ None
none_both n xs ys e f = first_joined n xs ys ∙ (ap (λ o. otherwise o (first_from n ys)) e ∙ f)

pub test_none : (b : Bool) (o : Option ℕ) (p : ℕ) → cond b o (Some p) ≡ None → (b ≡ true) × (o ≡ None)
test_none true o p e = (refl, e)
test_none false o p e = cc

-- one number in front
head_none : (n : ℕ) (x : Number) (xs : List Number) → first_from n (x ∷ xs) ≡ None → (x.type < n) × (first_from n xs ≡ None)
head_none n x xs e = let t = test_none (ltb x.type n) (first_from n xs) x.place e in (ltb-true x.type n t.0, t.1)

none_head : (n : ℕ) (x : Number) (xs : List Number) → x.type < n → first_from n xs ≡ None → first_from n (x ∷ xs) ≡ None
none_head n x xs h e = ap (λ b. cond b (first_from n xs) (Some x.place)) (lt-ltb x.type n h) ∙ e

module _ (n : ℕ) where
  abbrev Below : ℕ → Type 0
  Below t = t < n

  list_sound : (p : ℕ) (ts : List ℕ) → first_from n (in_list p ts) ≡ None → Each Below ts
  list_sound p [] e = tt
  list_sound p (t ∷ ts) e = let h = head_none n (number p t) (in_list (p + 1) ts) e in (h.0, list_sound (p + 1) ts h.1)

  list_complete : (p : ℕ) (ts : List ℕ) → Each Below ts → first_from n (in_list p ts) ≡ None
  list_complete p [] h = refl
  list_complete p (t ∷ ts) h = none_head n (number p t) (in_list (p + 1) ts) h.0 (list_complete (p + 1) ts h.1)

  cases_sound : (p : ℕ) (cs : List (List ℕ)) → first_from n (in_cases p cs) ≡ None → Each (Each Below) cs
  cases_sound p [] e = tt
  cases_sound p (c ∷ cs) e =
      let h = both_none n (in_list (p + 1) c) (in_cases (p + (1 + length c)) cs) e in (list_sound (p + 1) c h.0, cases_sound (p + (1 + length c)) cs h.1)

  cases_complete : (p : ℕ) (cs : List (List ℕ)) → Each (Each Below) cs → first_from n (in_cases p cs) ≡ None
  cases_complete p [] h = refl
  cases_complete p (c ∷ cs) h = none_both n (in_list (p + 1) c) (in_cases (p + (1 + length c)) cs) (list_complete (p + 1) c h.0) (cases_complete (p + (1 + length c)) cs h.1)

  types_sound : (p : ℕ) (ts : List (List (List ℕ))) → first_from n (in_types p ts) ≡ None → Each (Each (Each Below)) ts
  types_sound p [] e = tt
  types_sound p (t ∷ ts) e =
      let h = both_none n (in_cases (p + 3) t) (in_types (p + length (encode_type t)) ts) e in (cases_sound (p + 3) t h.0, types_sound (p + length (encode_type t)) ts h.1)

  types_complete : (p : ℕ) (ts : List (List (List ℕ))) → Each (Each (Each Below)) ts → first_from n (in_types p ts) ≡ None
  types_complete p [] h = refl
  types_complete p (t ∷ ts) h =
      none_both n (in_cases (p + 3) t) (in_types (p + length (encode_type t)) ts) (cases_complete (p + 3) t h.0) (types_complete (p + length (encode_type t)) ts h.1)

  abbrev Profiled : RawFunction → Type 0
  Profiled f = Each Below f.profile.params × (f.profile.result < n)

  profile_sound : (p : ℕ) (f : RawFunction) → first_from n (in_profile p f.profile.params f.profile.result) ≡ None → Profiled f
  profile_sound p f e =
      let h = both_none n (in_list (p + 3) f.profile.params) (number (p + (3 + length f.profile.params)) f.profile.result ∷ []) e in
      (list_sound (p + 3) f.profile.params h.0, (head_none n (number (p + (3 + length f.profile.params)) f.profile.result) [] h.1).0)

  profile_complete : (p : ℕ) (f : RawFunction) → Profiled f → first_from n (in_profile p f.profile.params f.profile.result) ≡ None
  profile_complete p f h =
      none_both n (in_list (p + 3) f.profile.params) (number (p + (3 + length f.profile.params)) f.profile.result ∷ [])
      (list_complete (p + 3) f.profile.params h.0) (none_head n _ [] h.1 refl)

  functions_sound : (p : ℕ) (fs : List RawFunction) → first_from n (in_functions p fs) ≡ None → Each Profiled fs
  functions_sound p [] e = tt
  functions_sound p (f ∷ fs) e =
      let h = both_none n (in_profile p f.profile.params f.profile.result) (in_functions (p + length (write_function f)) fs) e in
      (profile_sound p f h.0, functions_sound (p + length (write_function f)) fs h.1)

  functions_complete : (p : ℕ) (fs : List RawFunction) → Each Profiled fs → first_from n (in_functions p fs) ≡ None
  functions_complete p [] h = refl
  functions_complete p (f ∷ fs) h =
      none_both n (in_profile p f.profile.params f.profile.result) (in_functions (p + length (write_function f)) fs)
      (profile_complete p f h.0) (functions_complete (p + length (write_function f)) fs h.1)

  unknowns_sound : (p : ℕ) (ts : List ℕ) → first_from n (in_unknowns p ts) ≡ None → Each Below ts
  unknowns_sound p [] e = tt
  unknowns_sound p (t ∷ ts) e = let h = head_none n (number (p + 2) t) (in_unknowns (p + 3) ts) e in (h.0, unknowns_sound (p + 3) ts h.1)

  unknowns_complete : (p : ℕ) (ts : List ℕ) → Each Below ts → first_from n (in_unknowns p ts) ≡ None
  unknowns_complete p [] h = refl
  unknowns_complete p (t ∷ ts) h = none_head n (number (p + 2) t) (in_unknowns (p + 3) ts) h.0 (unknowns_complete (p + 3) ts h.1)

module _ (r : Raw) where
  known : ℕ
  known = length (declared_by r).types

  sound : undeclared r ≡ None → AllDeclared r
  unfolding known
  sound e =
      let one = both_none known (in_types 0 r.types) (in_functions (functions_start r) r.functions ++ in_unknowns (unknowns_start r) r.unknowns) e in
      let two = both_none known (in_functions (functions_start r) r.functions) (in_unknowns (unknowns_start r) r.unknowns) one.1 in
      record {
        of_types = types_sound known 0 r.types one.0;
        of_functions = functions_sound known _ r.functions two.0;
        of_unknowns = unknowns_sound known _ r.unknowns two.1;
      }

  complete : AllDeclared r → undeclared r ≡ None
  unfolding known
  complete h =
      none_both known (in_types 0 r.types) (in_functions (functions_start r) r.functions ++ in_unknowns (unknowns_start r) r.unknowns)
      (types_complete known 0 r.types h.of_types)
      (none_both known (in_functions (functions_start r) r.functions) (in_unknowns (unknowns_start r) r.unknowns)
      (functions_complete known _ r.functions h.of_functions) (unknowns_complete known _ r.unknowns h.of_unknowns))

pub undeclared_is_exact_lem : UndeclaredIsExact
undeclared_is_exact_lem r = record { sound = sound r; complete = complete r }
