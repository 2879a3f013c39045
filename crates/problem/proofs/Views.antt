-- What stands at a place, seen from its first bytes. The parts of a term stand where the table of ends leads. Assumes nothing.
use Rattle.std.proofs.Common.{◌≡◌, ℕ, zero, suc, ◌+◌, ◌<◌, ◌≤◌, cond, List, [], ◌∷◌, ◌++◌, length, get_or, drop, sym, refl, ap, ◌∙◌, subst, add-zero, arith, lt-ltb}
use Rattle.std.proofs.lemmas.List.{length-drop}
use Rattle.syntax.specs.Terms.{Term, Terms, var, unknown, con, call, case, both, not, equal, t[], ◌t∷◌, encode, encodes}
use Rattle.syntax.specs.Typing.{Sig, Want, want, each_of, branches_of, AllTyped, constructors, arguments, params_of, cases_of}
use Rattle.reading.specs.Reading.{tag_of}
use Rattle.ends.specs.Ends.{hop, hops, ends_of, nth, StandsAt, PartsStand}
use Rattle.ends.proofs.Ending.{encode_some, read_at, ends_give_parts_lem, within}
use Rattle.ends.proofs.Filling.{filled_long, ends_stand}
use Rattle.problem.specs.declared.view.View.{View}
use Rattle.problem.specs.declared.view.View.TheVariants.{Nothing}
use Rattle.problem.specs.Views.{view_by, view_at, Row, Shows, AlwaysShows}

module _ (sig : Sig) (bytes next : List ℕ) where
  -- parts that stand one by one stand in a row
  row_from : (ts : Terms) (ws : List Want) → AllTyped sig ws ts → (q : ℕ)
      → ((j : ℕ) → j < length ws → StandsAt sig bytes (hops next j q) (get_or ws j (want [] 0)) (nth ts j)) → Row sig bytes next q ws ts
  row_from t[] [] h q f = tt
  row_from t[] (w ∷ ws) h q f = absurd h
  row_from (t t∷ ts) [] h q f = absurd h
  row_from (t t∷ ts) (w ∷ ws) h q f = (f zero (omega arith), row_from ts ws h.2 (hop next q) (λ j lt. f (suc j) (omega arith)))

  -- the view by the first bytes, one, two or three of them
  view_1 : (p a : ℕ) (xs : List ℕ) → drop p bytes ≡ a ∷ xs → view_at sig bytes next p ≡ view_by sig next p (tag_of a) (get_or bytes (p + 1) 0) (get_or bytes (p + 2) 0)
  view_1 p a xs e =
      let long = sym (length-drop p bytes) ∙ ap length e in
      let low : p < length bytes = omega arith in
      let first = ap (λ q. get_or bytes q 0) (sym (add-zero p)) ∙ read_at bytes p 0 (a ∷ xs) e in
      let at = λ (x : ℕ). view_by sig next p (tag_of x) (get_or bytes (p + 1) 0) (get_or bytes (p + 2) 0) in
      ap (λ b. cond b (at (get_or bytes p 0)) Nothing) (lt-ltb p (length bytes) low) ∙ ap at first

  view_2 : (p a b : ℕ) (xs : List ℕ) → drop p bytes ≡ a ∷ (b ∷ xs) → view_at sig bytes next p ≡ view_by sig next p (tag_of a) b (get_or bytes (p + 2) 0)
  view_2 p a b xs e = view_1 p a (b ∷ xs) e ∙ ap (λ y. view_by sig next p (tag_of a) y (get_or bytes (p + 2) 0)) (read_at bytes p 1 (a ∷ (b ∷ xs)) e)

  view_3 : (p a b c : ℕ) (xs : List ℕ) → drop p bytes ≡ a ∷ (b ∷ (c ∷ xs)) → view_at sig bytes next p ≡ view_by sig next p (tag_of a) b c
  view_3 p a b c xs e = view_2 p a b (c ∷ xs) e ∙ ap (view_by sig next p (tag_of a) b) (read_at bytes p 2 (a ∷ (b ∷ (c ∷ xs))) e)

  shows : PartsStand sig bytes next → (p : ℕ) → AlwaysShows sig bytes next p (view_at sig bytes next p)
  shows parts p w (var v) st =
      subst (Shows sig bytes next w (var v)) (sym (view_2 p 0 v st.others st.is)) (record { is = refl; known = st.has.typed })
  shows parts p w (unknown k) st =
      subst (Shows sig bytes next w (unknown k)) (sym (view_2 p 1 k st.others st.is)) (record { is = refl; known = st.has.typed })
  shows parts p w (con k c ts) st =
      let h = st.has.typed in
      let all = subst (λ y. AllTyped sig (each_of w.scope (arguments sig y c)) ts) (sym h.0) h.2 in
      subst (Shows sig bytes next w (con k c ts)) (sym (view_3 p 2 k c (encodes ts ++ st.others) st.is)) (record {
        terms = ts;
        is = refl;
        own = h.0;
        known = subst (λ y. c < constructors sig y) (sym h.0) h.1;
        counts = refl;
        row = row_from ts (each_of w.scope (arguments sig k c)) all (p + 3) (parts p w (con k c ts) st);
      })
  shows parts p w (call f ts) st =
      let h = st.has.typed in
      subst (Shows sig bytes next w (call f ts)) (sym (view_2 p 3 f (encodes ts ++ st.others) st.is)) (record {
        terms = ts;
        is = refl;
        known = h.0;
        gives = h.1;
        counts = refl;
        row = row_from ts (each_of w.scope (params_of sig f)) h.2 (p + 2) (parts p w (call f ts) st);
      })
  shows parts p w (case k u us) st =
      let h = st.has.typed in
      let part = parts p w (case k u us) st in
      subst (Shows sig bytes next w (case k u us)) (sym (view_2 p 4 k ((encode u ++ encodes us) ++ st.others) st.is)) (record {
        subject = u;
        branches = us;
        is = refl;
        known = h.0;
        stands = part zero (omega arith);
        row = row_from us (branches_of w.scope w.ty (cases_of sig k)) h.2 (hop next (p + 2)) (λ j lt. part (suc j) (omega arith));
      })
  shows parts p w (both a b) st =
      let part = parts p w (both a b) st in
      subst (Shows sig bytes next w (both a b)) (sym (view_1 p 5 ((encode a ++ encode b) ++ st.others) st.is)) (record {
        left = a;
        right = b;
        is = refl;
        own = st.has.typed.0;
        stands_left = part zero (omega arith);
        stands_right = part (suc zero) (omega arith);
      })
  shows parts p w (not a) st =
      subst (Shows sig bytes next w (not a)) (sym (view_1 p 6 (encode a ++ st.others) st.is))
      (record { inner = a; is = refl; own = st.has.typed.0; stands = parts p w (not a) st zero (omega arith) })
  shows parts p w (equal k a b) st =
      let part = parts p w (equal k a b) st in
      subst (Shows sig bytes next w (equal k a b)) (sym (view_2 p 7 k ((encode a ++ encode b) ++ st.others) st.is)) (record {
        ty = k;
        left = a;
        right = b;
        is = refl;
        own = st.has.typed.0;
        known = st.has.typed.1;
        stands_left = part zero (omega arith);
        stands_right = part (suc zero) (omega arith);
      })

-- with the table of ends, each view shows the term at its place
pub views_show : (sig : Sig) (bytes : List ℕ) (p : ℕ) (v : View) → v ≡ view_at sig bytes (ends_of sig bytes) p → AlwaysShows sig bytes (ends_of sig bytes) p v
views_show sig bytes p v e =
    let next = ends_of sig bytes in
    subst (AlwaysShows sig bytes next p) (sym e)
    (shows sig bytes next (ends_give_parts_lem sig bytes next (ends_stand sig bytes) (filled_long sig bytes (length bytes))) p)

-- and the table leads past a term that stands
pub comes_after : (sig : Sig) (bytes : List ℕ) (p q : ℕ) → q ≡ hop (ends_of sig bytes) p → (w : Want) (t : Term) → StandsAt sig bytes p w t → q ≡ p + length (encode t)
comes_after sig bytes p q e w t st =
    let next = ends_of sig bytes in
    let all = filled_long sig bytes (length bytes) in
    let from : 0 ≤ p = omega arith in
    let to = ends_stand sig bytes p from w.scope w.ty t st.others st.has st.is in
    let room = within bytes p t st.others st.is in
    let some = encode_some t in
    let low : p < length next = omega arith in
    e ∙ ap (λ b. cond b (get_or next p 0) p) (lt-ltb p (length next) low) ∙ to
