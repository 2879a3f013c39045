-- A conflict forbids only what it may, and each new one forbids a full set that was still allowed. Assumes nothing.
use Rattle.std.proofs.Common.{◌≡◌, ℕ, ◌+◌, ◌<◌, Bool, true, false, cond, ◌⊎◌, List, [], ◌∷◌, sym, refl, ap, ◌∙◌, subst, inl, inr}
use mathlib.Core.Option.{Option, none, some, get_or}
use Rattle.std.proofs.lemmas.Bool.{both_ways, and_parts, and_from, or_left, or_right, cond-true}
use Rattle.syntax.specs.Problems.{Problem}
use Rattle.judging.specs.Held.{goal}
use Rattle.judging.specs.Paths.{Path, Decision, under}
use Rattle.judging.specs.Asked.{◌∈◌, first, later}
use Rattle.judging.proofs.Asked.{explained_decided, member}
use Rattle.judging.proofs.Truth.{false_forbids}
use Rattle.finder.specs.Tables.{Entry, Table, width}
use Rattle.finder.specs.Ways.{Way, case_of, decided}
use Rattle.finder.specs.Conflicts.{Choice, has, add_choice, choices_of, FullSet}
use Rattle.finder.specs.Invariant.{says, says_all, meets, Fine}
use Rattle.finder.specs.Claims.{ForbidsOnly, ConflictExplained, NewInFull}
use Rattle.finder.proofs.Tables.{same_some, in_cons, same_path_self, entry_of}
use Rattle.finder.proofs.Ways.{decided_says, opened_decided}
use Rattle.finder.proofs.Clauses.{says_opened}
use Rattle.finder.proofs.Asking.{switched}

pub forbids_only : ForbidsOnly
forbids_only p T k α x f t =
    false_forbids p x.under k.of x.because x.judging α
    (λ u c m e. let q = x.covers u m in f (record { at = u; con = q.0 }) q.2 ∙ ap some (same_some q.1 e)) t

-- all choices of a list
pub says_each : (T : Table) (w : Way) (xs : List Choice) → says_all T w xs ≡ true → (x : Choice) → x ∈ xs → says T w x ≡ true
says_each T w [] e x m = elim m [ ]
says_each T w (y ∷ xs) e x first = (and_parts _ _ e).0
says_each T w (y ∷ xs) e x (later m) = says_each T w xs (and_parts _ _ e).1 x m

pub each_says : (T : Table) (w : Way) (xs : List Choice) → ((x : Choice) → x ∈ xs → says T w x ≡ true) → says_all T w xs ≡ true
each_says T w [] f = refl
each_says T w (y ∷ xs) f = and_from _ _ (f y first) (each_says T w xs (λ x m. f x (later m)))

-- the choices for an explanation
has_member : (E : List Path) (u : Path) → u ∈ E → has E u ≡ true
has_member [] u m = elim m [ ]
has_member (v ∷ E) u first = or_left _ _ (same_path_self u)
has_member (v ∷ E) u (later m) = or_right _ _ (has_member E u m)

added_before : (x : Choice) (u : Path) (o : Option ℕ) (xs : List Choice) → x ∈ xs → x ∈ add_choice u o xs
added_before x u none xs m = m
added_before x u (some c) xs m = later m

choices_cover : (δ : Decision) (E : List Path) (T : Table) (y : Entry) (c : ℕ) → y ∈ T → has E y.path ≡ true → δ y.path ≡ some c
    → record { at = y.path; con = c } ∈ choices_of δ E T
choices_cover δ E [] y c m h e = elim m [ ]
choices_cover δ E (x ∷ T) y c m h e = go (in_cons m) (choices_cover δ E T y c)
  where
    old : (b : Bool) → record { at = y.path; con = c } ∈ choices_of δ E T
        → record { at = y.path; con = c } ∈ cond b (add_choice x.path (δ x.path) (choices_of δ E T)) (choices_of δ E T)
    old true m = added_before _ x.path (δ x.path) (choices_of δ E T) m
    old false m = m

    new : (v : Path) → has E v ≡ true → δ v ≡ some c
        → record { at = v; con = c } ∈ cond (has E v) (add_choice v (δ v) (choices_of δ E T)) (choices_of δ E T)
    new v h e =
        subst (λ xs. record { at = v; con = c } ∈ xs)
        (sym (cond-true _ _ _ h ∙ ap (λ o. add_choice v o (choices_of δ E T)) e)) first

    go : (x ≡ y) ⊎ (y ∈ T) → (y ∈ T → has E y.path ≡ true → δ y.path ≡ some c → record { at = y.path; con = c } ∈ choices_of δ E T)
        → record { at = y.path; con = c } ∈ choices_of δ E (x ∷ T)
    go (inl q) ih =
        subst (λ v. record { at = y.path; con = c } ∈ cond (has E v) (add_choice v (δ v) (choices_of δ E T)) (choices_of δ E T))
        (ap (λ (z : Entry). z.path) (sym q)) (new y.path h e)
    go (inr q) ih = old (has E x.path) (ih q h e)

pub choices_are : (δ : Decision) (E : List Path) (T : Table) (x : Choice) → x ∈ choices_of δ E T → δ x.at ≡ some x.con
choices_are δ E [] x m = elim m [ ]
choices_are δ E (y ∷ T) x m = pick (has E y.path) (choices_are δ E T x) m
  where
    last : (d : ℕ) → δ y.path ≡ some d → (x ∈ choices_of δ E T → δ x.at ≡ some x.con)
        → (record { at = y.path; con = d } ≡ x) ⊎ (x ∈ choices_of δ E T) → δ x.at ≡ some x.con
    last d e ih (inl q) = subst (λ (z : Choice). δ z.at ≡ some z.con) q e
    last d e ih (inr m) = ih m

    go : (o : Option ℕ) → δ y.path ≡ o → (x ∈ choices_of δ E T → δ x.at ≡ some x.con) → x ∈ add_choice y.path o (choices_of δ E T)
        → δ x.at ≡ some x.con
    go none e ih m = ih m
    go (some d) e ih m = last d e ih (in_cons m)

    pick : (b : Bool) → (x ∈ choices_of δ E T → δ x.at ≡ some x.con)
        → x ∈ cond b (add_choice y.path (δ y.path) (choices_of δ E T)) (choices_of δ E T) → δ x.at ≡ some x.con
    pick true ih m = go (δ y.path) refl ih m
    pick false ih m = ih m

pub conflict_explained : ConflictExplained
conflict_explained p T w g E small j =
    let δ : Decision = decided p T w in
    record {
      is_goal = small;
      under = δ;
      because = E;
      judging = j;
      covers = λ u m.
          let q = member m (explained_decided Path p (under p δ) (goal p g) j.steps j.left 0 j.args E j.judged) in
          let o = decided_says p T w u q.0 q.1 in
          (q.0, q.1, choices_cover δ E T _ q.0 (entry_of T u o.0 o.1) (has_member E u m) q.1);
      opened = λ x m. let q = decided_says p T w x.at x.con (choices_are δ E T x m) in (q.0, q.1, q.2);
    }

-- the full set of a way: the case decided, and 0 for what is not opened
pub set_of : Problem → Table → Way → FullSet
set_of p T w u = get_or (decided p T w u) 0

pub set_is : (p : Problem) (T : Table) (w : Way) (u : Path) (c : ℕ) → decided p T w u ≡ some c → set_of p T w u ≡ c
unfolding set_of
set_is p T w u c e = ap (λ o. get_or o 0) e

pub new_in_full : NewInFull
unfolding set_of
new_in_full p T R count ways w force g E S al sw = (
  set_of p T w,
  (λ u a e. let q = opened_decided p T R w fine u a e in subst (λ c. c < width p u) (sym (set_is p T w u q.0 q.1)) q.2),
  (λ k m f forb.
      let x = S.explained k m in
      both_ways (meets T w k) (fine.no_conflict k m)
      (and_from (w k.of) _ (switched w p force sw k.of x.is_goal f)
      (each_says T w k.choices
      (λ y n.
      let o = x.opened y n in
      let q = opened_decided p T R w fine y.at o.0 o.1 in
      let same : q.0 ≡ y.con = sym (set_is p T w y.at q.0 q.1) ∙ forb y n in
      says_opened T w y o.0 o.1 ∙ subst (λ c. w (o.0 + c) ≡ true) same q.3)))),
  (λ y n. set_is p T w y.at y.con (choices_are (decided p T w) E T y n)),
  λ u e. ap (λ o. get_or (case_of w (width p u) o) 0) e,
)
  where
    fine : Fine p T R w
    fine = S.allowed w al
