-- Where the terms of a problem stand in its bytes: each behind the head of its record, and the records one after another. Assumes nothing.
use Rattle.std.proofs.Common.{◌≡◌, ℕ, zero, suc, ◌+◌, ◌/◌, ◌%◌, ◌<◌, List, [], ◌∷◌, ◌++◌, map, length, get_or, drop, sym, refl, ap, ◌∙◌, subst, append_assoc, arith}
use Rattle.std.proofs.lemmas.List.{drop_at, length-append}
use Rattle.syntax.specs.Terms.{Term, encode}
use Rattle.syntax.specs.Typing.{Profile, no_profile, want, params_of, result_of, HasType}
use Rattle.syntax.specs.Problems.{Function, Problem, LawfulFunction, LawfulGoal, sig_of, concat, encode_list, encode_type, encode_function, encode_unknown, encode_goal, encode_end}
use Rattle.tables.specs.Tabled.{places_of}
use Rattle.depths.proofs.Lawfulness.{each_at}
use Rattle.ends.specs.Ends.{StandsAt}
use Rattle.ends.proofs.Ending.{past_part}
use Rattle.verdict.specs.Exact.{Encodes}
use Rattle.kept.specs.Layout.{functions_from, unknowns_from, goals_from, body_from, goal_from, body_places, goal_places}

pub length_places : {A : Type 0} (g : ℕ → A → ℕ) (w : A → List ℕ) (p : ℕ) (xs : List A) → length (places_of g w p xs) ≡ length xs
length_places g w p [] = refl
length_places g w p (x ∷ xs) = ap suc (length_places g w (p + length (w x)) xs)

-- Records that stand one after another, each a head and a term: the term of each stands where its head ends.
module _ {A : Type 0} (g : ℕ → A → ℕ) (w hd : A → List ℕ) (term : A → Term) (split : (x : A) → w x ≡ hd x ++ encode (term x))
    (at : (p : ℕ) (x : A) → p + length (hd x) ≡ g p x) (bytes : List ℕ) where
  term_there : (xs : List A) (p : ℕ) (rest : List ℕ) → drop p bytes ≡ concat w xs ++ rest → (i d : ℕ) (e : A) → i < length xs
      → (others : List ℕ) × (drop (get_or (places_of g w p xs) i d) bytes ≡ encode (term (get_or xs i e)) ++ others)
  term_there [] p rest h i d e lt = absurd (omega arith)
  term_there (x ∷ xs) p rest h zero d e lt =
      let after = concat w xs ++ rest in
      let whole = h ∙ append_assoc (w x) (concat w xs) rest ∙ ap (λ k. k ++ after) (split x) ∙ append_assoc (hd x) (encode (term x)) after in
      (after, ap (λ k. drop k bytes) (sym (at p x)) ∙ past_part bytes p (hd x) (encode (term x) ++ after) whole)
  term_there (x ∷ xs) p rest h (suc i) d e lt =
      term_there xs (p + length (w x)) rest (past_part bytes p (w x) (concat w xs ++ rest) (h ∙ append_assoc (w x) (concat w xs) rest)) i d e (omega arith)

abbrev body_head : Function → List ℕ
body_head f = 0x46 ∷ (0x4E ∷ (encode_list f.profile.params ++ (f.profile.result ∷ ((length (encode f.body) / 256) ∷ ((length (encode f.body) % 256) ∷ [])))))

body_split : (f : Function) → encode_function f ≡ body_head f ++ encode f.body
body_split f =
    let len = encode_list f.profile.params in
    let n = length (encode f.body) in
    ap (λ k. 0x46 ∷ (0x4E ∷ k)) (sym (append_assoc len (f.profile.result ∷ ((n / 256) ∷ ((n % 256) ∷ []))) (encode f.body)))

body_starts : (p : ℕ) (f : Function) → p + length (body_head f) ≡ body_from p f
body_starts p f =
    let n = length (encode f.body) in
    let sum = length-append f.profile.params (f.profile.result ∷ ((n / 256) ∷ ((n % 256) ∷ []))) in
    omega arith

abbrev goal_head : Term → List ℕ
goal_head g = 0x47 ∷ (0x4C ∷ ((length (encode g) / 256) ∷ ((length (encode g) % 256) ∷ [])))

module _ (p : Problem) (bytes : List ℕ) (e : Encodes p bytes) where
  abbrev tail_goals : List ℕ
  tail_goals = concat encode_goal p.goals ++ encode_end

  abbrev tail_unknowns : List ℕ
  tail_unknowns = concat encode_unknown p.unknowns ++ tail_goals

  abbrev tail_functions : List ℕ
  tail_functions = concat encode_function p.functions ++ tail_unknowns

  functions_there : drop (functions_from p) bytes ≡ tail_functions
  functions_there = ap (drop (functions_from p)) (sym e.is) ∙ drop_at (concat encode_type p.types) tail_functions (functions_from p) refl

  goals_there : drop (goals_from p) bytes ≡ tail_goals
  goals_there =
      past_part bytes (unknowns_from p) (concat encode_unknown p.unknowns) tail_goals
      (past_part bytes (functions_from p) (concat encode_function p.functions) tail_unknowns functions_there)

  pub body_stands : (f q : ℕ) → (d : Function) → f < length p.functions → q ≡ get_or (body_places p) f (length bytes)
      → StandsAt (sig_of p) bytes q (want (params_of (sig_of p) f) (result_of (sig_of p) f)) (get_or p.functions f d).body
  body_stands f q d lt at =
      let there = term_there body_from encode_function body_head (λ x. x.body) body_split body_starts bytes p.functions (functions_from p) tail_unknowns functions_there f (length bytes) d lt in
      let has = (each_at (LawfulFunction (sig_of p)) p.functions d e.lawful.of_functions f lt).2 in
      let same = profile_at p.functions f lt in
      record {
        others = there.0;
        has = subst (λ (r : Profile). HasType (sig_of p) r.params (get_or p.functions f d).body r.result) same has;
        is = ap (λ k. drop k bytes) at ∙ there.1;
      }
    where
      profile_at : (fs : List Function) (i : ℕ) → i < length fs → (get_or fs i d).profile ≡ get_or (map (λ x. x.profile) fs) i no_profile
      profile_at [] i l = absurd (omega arith)
      profile_at (x ∷ fs) zero l = refl
      profile_at (x ∷ fs) (suc i) l = profile_at fs i (omega arith)

  pub goal_stands : (g q : ℕ) → (d : Term) → g < length p.goals → q ≡ get_or (goal_places p) g (length bytes)
      → StandsAt (sig_of p) bytes q (want [] 0) (get_or p.goals g d)
  goal_stands g q d lt at =
      let there = term_there goal_from encode_goal goal_head (λ x. x) (λ x. refl) (λ k x. omega arith) bytes p.goals (goals_from p) encode_end goals_there g (length bytes) d lt in
      record {
        others = there.0;
        has = each_at (LawfulGoal (sig_of p)) p.goals d e.lawful.of_goals g lt;
        is = ap (λ k. drop k bytes) at ∙ there.1;
      }
