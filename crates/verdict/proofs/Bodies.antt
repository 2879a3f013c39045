-- Bodies and goals that are read are typed terms with those bytes, and each such term is read.
use Rattle.std.proofs.Common.{◌≡◌, ℕ, suc, ◌+◌, List, [], ◌∷◌, ◌++◌, map, length, Ok, refl, ap, ◌∙◌, subst}
use Rattle.syntax.specs.Terms.{Term, encode}
use Rattle.syntax.specs.Typing.{Sig, HasType}
use Rattle.syntax.specs.Problems.{Function, Each, concat, encode_list, encode_part, encode_function, encode_goal, LawfulGoal}
use Rattle.records.specs.Raw.{RawFunction, write_function, write_goal}
use Rattle.tables.specs.Tabled.{body_at, term_at}
use Rattle.reading.specs.Reading.{reading}
use Rattle.reading.proofs.Verdicts.{reading_is_exact_lem}
use Rattle.verdict.specs.Verdict.{term_in, bodies_in, goals_in}
use Rattle.records.proofs.Results.{was_ok, then_ok}
use Rattle.verdict.proofs.Results.{term_was}

abbrev pub TypedBody : Sig → Function → Type 0
TypedBody sig f = HasType sig f.profile.params f.body f.profile.result

-- the functions have the profiles and the bytes of the records, and typed bodies
pub record AreBodies (sig : Sig) (rs : List RawFunction) (fs : List Function) : Type 0 where
  pub profiles : map (λ f. f.profile) fs ≡ map (λ f. f.profile) rs
  pub bytes : concat encode_function fs ≡ concat write_function rs
  pub long : length fs ≡ length rs
  pub typed : Each (TypedBody sig) fs

abbrev pub with_body : RawFunction → Term → Function
with_body r t = record { profile = r.profile; body = t }

function_bytes : (r : RawFunction) (t : Term) → encode t ≡ r.body → encode_function (with_body r t) ≡ write_function r
function_bytes r t e = ap (λ b. 0x46 ∷ (0x4E ∷ (encode_list r.profile.params ++ (r.profile.result ∷ encode_part b)))) e

one_more : (sig : Sig) (r : RawFunction) (rs : List RawFunction) (t : Term) (fs : List Function) → HasType sig r.profile.params t r.profile.result
    → encode t ≡ r.body → AreBodies sig rs fs → AreBodies sig (r ∷ rs) (with_body r t ∷ fs)
one_more sig r rs t fs h e b =
    record {
      profiles = ap (λ ps. r.profile ∷ ps) b.profiles;
      bytes = ap (λ x. x ++ concat encode_function fs) (function_bytes r t e) ∙ ap (λ x. write_function r ++ x) b.bytes;
      long = ap suc b.long;
      typed = (h, b.typed);
    }

pub bodies_sound : (sig : Sig) (rs : List RawFunction) (p : ℕ) (fs : List Function) → bodies_in sig rs p ≡ Ok fs → AreBodies sig rs fs
bodies_sound sig [] p fs e =
    let q : [] ≡ fs = cc in
    subst (AreBodies sig []) q (record { profiles = refl; bytes = refl; long = refl; typed = tt })
bodies_sound sig (r ∷ rs) p fs e =
    let one = was_ok (term_in (reading sig r.profile.params r.profile.result (body_at p r) r.body)) _ e in
    let two = was_ok (bodies_in sig rs (p + length (write_function r))) _ one.2 in
    let has = (reading_is_exact_lem sig r.profile.params r.profile.result (body_at p r) r.body one.0).sound (term_was _ one.1) in
    let last = two.2 in
    let q : (with_body r one.0 ∷ two.0) ≡ fs = cc in
    subst (AreBodies sig (r ∷ rs)) q (one_more sig r rs one.0 two.0 has.0 has.1 (bodies_sound sig rs _ two.0 two.1))

abbrev pub raw_function : Function → RawFunction
raw_function f = record { profile = f.profile; body = encode f.body }

pub bodies_complete : (sig : Sig) (fs : List Function) (p : ℕ) → Each (TypedBody sig) fs → bodies_in sig (map raw_function fs) p ≡ Ok fs
bodies_complete sig [] p h = refl
bodies_complete sig (f ∷ fs) p h =
    then_ok _ (ap term_in ((reading_is_exact_lem sig f.profile.params f.profile.result _ (encode f.body) f.body).complete h.0 refl))
    ∙ then_ok _ (bodies_complete sig fs _ h.1)

-- the goals are typed and have the bytes of the records
pub record AreGoals (sig : Sig) (rs : List (List ℕ)) (gs : List Term) : Type 0 where
  pub bytes : concat encode_goal gs ≡ concat write_goal rs
  pub long : length gs ≡ length rs
  pub typed : Each (LawfulGoal sig) gs

goal_more : (sig : Sig) (r : List ℕ) (rs : List (List ℕ)) (t : Term) (gs : List Term) → HasType sig [] t 0
    → encode t ≡ r → AreGoals sig rs gs → AreGoals sig (r ∷ rs) (t ∷ gs)
goal_more sig r rs t gs h e b =
    record {
      bytes = ap (λ x. write_goal x ++ concat encode_goal gs) e ∙ ap (λ x. write_goal r ++ x) b.bytes;
      long = ap suc b.long;
      typed = (h, b.typed);
    }

pub goals_sound : (sig : Sig) (rs : List (List ℕ)) (p : ℕ) (gs : List Term) → goals_in sig rs p ≡ Ok gs → AreGoals sig rs gs
goals_sound sig [] p gs e =
    let q : [] ≡ gs = cc in
    subst (AreGoals sig []) q (record { bytes = refl; long = refl; typed = tt })
goals_sound sig (r ∷ rs) p gs e =
    let one = was_ok (term_in (reading sig [] 0 (term_at p r) r)) _ e in
    let two = was_ok (goals_in sig rs (p + length (write_goal r))) _ one.2 in
    let has = (reading_is_exact_lem sig [] 0 (term_at p r) r one.0).sound (term_was _ one.1) in
    let last = two.2 in
    let q : (one.0 ∷ two.0) ≡ gs = cc in
    subst (AreGoals sig (r ∷ rs)) q (goal_more sig r rs one.0 two.0 has.0 has.1 (goals_sound sig rs _ two.0 two.1))

pub goals_complete : (sig : Sig) (gs : List Term) (p : ℕ) → Each (LawfulGoal sig) gs → goals_in sig (map encode gs) p ≡ Ok gs
goals_complete sig [] p h = refl
goals_complete sig (g ∷ gs) p h =
    then_ok _ (ap term_in ((reading_is_exact_lem sig [] 0 _ (encode g) g).complete h.0 refl))
    ∙ then_ok _ (goals_complete sig gs _ h.1)
