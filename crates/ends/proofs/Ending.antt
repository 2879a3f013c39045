-- Where a term ends, from where its parts end, and so where each part stands. Assumes nothing.
use Rattle.std.proofs.Common.{◌≡◌, ℕ, zero, suc, ◌+◌, ◌<◌, ◌≤◌, cond, List, [], ◌∷◌, ◌++◌, length, get_or, drop, set, sym, refl, ap, ◌∙◌, subst, ⊎_elim, append_assoc, add-zero, arith, lt-ltb}
use Rattle.std.proofs.lemmas.List.{drop-drop, drop_at, get_or-drop, length-append, length-drop, length-map, append-nil, get_or-set_same, get_or-set_other}
use Rattle.std.proofs.lemmas.Bool.{cases_eq}
use Rattle.syntax.specs.Terms.{Term, Terms, var, unknown, con, call, case, both, not, equal, t[], ◌t∷◌, encode, encodes}
use Rattle.syntax.specs.Typing.{Sig, Want, want, Typed, AllTyped, each_of, branches_of, arguments, params_of, cases_of}
use Rattle.ends.specs.Ends.{Ends, hops, end_by, end_at, parts_in, wants_in, head_in, nth, StandsAt, EndsGiveParts}

abbrev count : Terms → ℕ
count t[] = 0
count (t t∷ ts) = suc (count ts)

all_long : (sig : Sig) (ts : Terms) (ws : List Want) → AllTyped sig ws ts → count ts ≡ length ws
all_long sig t[] [] h = refl
all_long sig t[] (w ∷ ws) h = absurd h
all_long sig (t t∷ ts) [] h = absurd h
all_long sig (t t∷ ts) (w ∷ ws) h = ap suc (all_long sig ts ws h.2)

pub encode_some : (t : Term) → 0 < length (encode t)
encode_some (var v) = omega arith
encode_some (unknown k) = omega arith
encode_some (con t c ts) = omega arith
encode_some (call f ts) = omega arith
encode_some (case t u us) = omega arith
encode_some (both a b) = omega arith
encode_some (not a) = omega arith
encode_some (equal t a b) = omega arith

pub past_part : (bytes : List ℕ) (q : ℕ) (xs zs : List ℕ) → drop q bytes ≡ xs ++ zs → drop (q + length xs) bytes ≡ zs
past_part bytes q xs zs e = sym (drop-drop (length xs) q bytes) ∙ ap (drop (length xs)) e ∙ drop_at xs zs (length xs) refl

pub within : (bytes : List ℕ) (q : ℕ) (t : Term) (zs : List ℕ) → drop q bytes ≡ encode t ++ zs → q + length (encode t) ≤ length bytes
within bytes q t zs e =
    let l = ap length e in
    let d = length-drop q bytes in
    let a = length-append (encode t) zs in
    let s = encode_some t in
    omega arith

pub read_at : (bytes : List ℕ) (p k : ℕ) (xs : List ℕ) → drop p bytes ≡ xs → get_or bytes (p + k) 0 ≡ get_or xs k 0
read_at bytes p k xs e = sym (get_or-drop p bytes k 0) ∙ ap (λ ys. get_or ys k 0) e

module _ (sig : Sig) (bytes next : List ℕ) (i : ℕ) (ends : Ends sig bytes next i) (long : length next ≡ length bytes) where
  lands_all : (ts : Terms) (ws : List Want) → AllTyped sig ws ts → (q : ℕ) (zs : List ℕ) → i ≤ q → drop q bytes ≡ encodes ts ++ zs
      → hops next (count ts) q ≡ q + length (encodes ts)
  lands_all t[] ws h q zs le e = sym (add-zero q)
  lands_all (t t∷ ts) [] h q zs le e = absurd h
  lands_all (t t∷ ts) (w ∷ ws) h q zs le e =
      let e' = e ∙ append_assoc (encode t) (encodes ts) zs in
      let at = ends q le w.scope w.ty t (encodes ts ++ zs) (record { few = h.0; typed = h.1 }) e' in
      let room = within bytes q t (encodes ts ++ zs) e' in
      let some = encode_some t in
      let low : q < length next = omega arith in
      let to : i ≤ q + length (encode t) = omega arith in
      ap (hops next (count ts)) (ap (λ b. cond b (get_or next q 0) q) (lt-ltb q (length next) low) ∙ at)
      ∙ lands_all ts ws h.2 (q + length (encode t)) zs to (past_part bytes q (encode t) (encodes ts ++ zs) e')
      ∙ (let sum = length-append (encode t) (encodes ts) in omega arith)

  -- a term of n parts after the bytes hd
  with_parts : (p n : ℕ) (hd : List ℕ) (ts : Terms) (ws : List Want) (zs : List ℕ) → AllTyped sig ws ts → i ≤ p + length hd
      → drop p bytes ≡ hd ++ (encodes ts ++ zs) → n ≡ length ws → hops next n (p + length hd) ≡ p + (length hd + length (encodes ts))
  with_parts p n hd ts ws zs h le e c =
      ap (λ k. hops next k (p + length hd)) (c ∙ sym (all_long sig ts ws h))
      ∙ lands_all ts ws h (p + length hd) zs le (past_part bytes p hd (encodes ts ++ zs) e)
      ∙ omega arith

  read_0 : (p a : ℕ) (xs : List ℕ) → drop p bytes ≡ a ∷ xs → get_or bytes p 0 ≡ a
  read_0 p a xs e = ap (λ q. get_or bytes q 0) (sym (add-zero p)) ∙ read_at bytes p 0 (a ∷ xs) e

  pub lands : (p : ℕ) → i ≤ p + 1 → (s : List ℕ) (ty : ℕ) (t : Term) (zs : List ℕ) → length s ≤ 64 → Typed sig s ty t → drop p bytes ≡ encode t ++ zs
      → end_at sig bytes next p ≡ p + length (encode t)
  lands p le s ty (var v) zs l h e = ap (λ a. end_by sig next p a (get_or bytes (p + 1) 0) (get_or bytes (p + 2) 0)) (read_0 p 0 (v ∷ zs) e)
  lands p le s ty (unknown k) zs l h e = ap (λ a. end_by sig next p a (get_or bytes (p + 1) 0) (get_or bytes (p + 2) 0)) (read_0 p 1 (k ∷ zs) e)
  lands p le s ty (con k c ts) zs l h e =
      let to : i ≤ p + 3 = omega arith in
      ap (λ a. end_by sig next p a (get_or bytes (p + 1) 0) (get_or bytes (p + 2) 0)) (read_0 p 2 (k ∷ (c ∷ (encodes ts ++ zs))) e)
      ∙ ap (λ a. end_by sig next p 2 a (get_or bytes (p + 2) 0)) (read_at bytes p 1 (2 ∷ (k ∷ (c ∷ (encodes ts ++ zs)))) e)
      ∙ ap (λ a. end_by sig next p 2 k a) (read_at bytes p 2 (2 ∷ (k ∷ (c ∷ (encodes ts ++ zs)))) e)
      ∙ with_parts p (length (arguments sig k c)) (2 ∷ (k ∷ (c ∷ []))) ts (each_of s (arguments sig ty c)) zs h.2 to e
      (ap (λ y. length (arguments sig y c)) h.0 ∙ sym (length-map (arguments sig ty c) (want s)))
      ∙ omega arith
  lands p le s ty (call f ts) zs l h e =
      let to : i ≤ p + 2 = omega arith in
      ap (λ a. end_by sig next p a (get_or bytes (p + 1) 0) (get_or bytes (p + 2) 0)) (read_0 p 3 (f ∷ (encodes ts ++ zs)) e)
      ∙ ap (λ a. end_by sig next p 3 a (get_or bytes (p + 2) 0)) (read_at bytes p 1 (3 ∷ (f ∷ (encodes ts ++ zs))) e)
      ∙ with_parts p (length (params_of sig f)) (3 ∷ (f ∷ [])) ts (each_of s (params_of sig f)) zs h.2 to e (sym (length-map (params_of sig f) (want s)))
      ∙ omega arith
  lands p le s ty (case k u us) zs l h e =
      let to : i ≤ p + 2 = omega arith in
      ap (λ a. end_by sig next p a (get_or bytes (p + 1) 0) (get_or bytes (p + 2) 0)) (read_0 p 4 (k ∷ ((encode u ++ encodes us) ++ zs)) e)
      ∙ ap (λ a. end_by sig next p 4 a (get_or bytes (p + 2) 0)) (read_at bytes p 1 (4 ∷ (k ∷ ((encode u ++ encodes us) ++ zs))) e)
      ∙ with_parts p (1 + length (cases_of sig k)) (4 ∷ (k ∷ [])) (u t∷ us) (want s k ∷ branches_of s ty (cases_of sig k)) zs (l, h.1, h.2) to e
      (let m = length-map (cases_of sig k) (λ tys. want (s ++ tys) ty) in omega arith)
      ∙ omega arith
  lands p le s ty (both a b) zs l h e =
      let to : i ≤ p + 1 = omega arith in
      let pair = append-nil (encode b) in
      ap (λ a. end_by sig next p a (get_or bytes (p + 1) 0) (get_or bytes (p + 2) 0)) (read_0 p 5 ((encode a ++ encode b) ++ zs) e)
      ∙ with_parts p 2 (5 ∷ []) (a t∷ b t∷ t[]) (want s 0 ∷ (want s 0 ∷ [])) zs (l, h.1, (l, h.2, tt)) to
      (e ∙ ap (λ bs. 5 ∷ ((encode a ++ bs) ++ zs)) (sym pair)) refl
      ∙ ap (λ bs. p + (1 + length (encode a ++ bs))) pair
      ∙ omega arith
  lands p le s ty (not a) zs l h e =
      let to : i ≤ p + 1 = omega arith in
      let only = append-nil (encode a) in
      ap (λ a. end_by sig next p a (get_or bytes (p + 1) 0) (get_or bytes (p + 2) 0)) (read_0 p 6 (encode a ++ zs) e)
      ∙ with_parts p 1 (6 ∷ []) (a t∷ t[]) (want s 0 ∷ []) zs (l, h.1, tt) to (e ∙ ap (λ bs. 6 ∷ (bs ++ zs)) (sym only)) refl
      ∙ ap (λ bs. p + (1 + length bs)) only
      ∙ omega arith
  lands p le s ty (equal k a b) zs l h e =
      let to : i ≤ p + 2 = omega arith in
      let pair = append-nil (encode b) in
      ap (λ a. end_by sig next p a (get_or bytes (p + 1) 0) (get_or bytes (p + 2) 0)) (read_0 p 7 (k ∷ ((encode a ++ encode b) ++ zs)) e)
      ∙ ap (λ a. end_by sig next p 7 a (get_or bytes (p + 2) 0)) (read_at bytes p 1 (7 ∷ (k ∷ ((encode a ++ encode b) ++ zs))) e)
      ∙ with_parts p 2 (7 ∷ (k ∷ [])) (a t∷ b t∷ t[]) (want s k ∷ (want s k ∷ [])) zs (l, h.2, (l, h.3, tt)) to
      (e ∙ ap (λ bs. 7 ∷ (k ∷ ((encode a ++ bs) ++ zs))) (sym pair)) refl
      ∙ ap (λ bs. p + (2 + length (encode a ++ bs))) pair
      ∙ omega arith

pub none_past : (sig : Sig) (bytes next : List ℕ) → Ends sig bytes next (length bytes)
none_past sig bytes next p le s ty t zs h e =
    let room = within bytes p t zs e in
    let some = encode_some t in
    absurd (omega arith)

pub one_more : (sig : Sig) (bytes next : List ℕ) (q v : ℕ) → Ends sig bytes next (q + 1) → length next ≡ length bytes → q < length next
    → (end_at sig bytes next q ≤ length bytes → v ≡ end_at sig bytes next q)
    → Ends sig bytes (set next q v) q
one_more sig bytes next q v ends long low at p le s ty t zs h e = ⊎_elim same other (cases_eq p q)
  where
    same : p ≡ q → get_or (set next q v) p 0 ≡ p + length (encode t)
    same d =
        let e' : drop q bytes ≡ encode t ++ zs = ap (λ k. drop k bytes) (sym d) ∙ e in
        let to : q + 1 ≤ q + 1 = omega arith in
        let is = lands sig bytes next (q + 1) ends long q to s ty t zs h.few h.typed e' in
        let room = within bytes q t zs e' in
        let v-is = at (omega arith) in
        ap (λ k. get_or (set next q v) k 0) d ∙ get_or-set_same next q v 0 low ∙ v-is ∙ is ∙ ap (λ k. k + length (encode t)) (sym d)

    other : (p ≡ q → ⊥) → get_or (set next q v) p 0 ≡ p + length (encode t)
    other ne = get_or-set_other next q p v 0 ne ∙ ends p (omega arith) s ty t zs h e

-- parts, each after the one before
nth_stands : (sig : Sig) (bytes next : List ℕ) → Ends sig bytes next 0 → length next ≡ length bytes
    → (ts : Terms) (ws : List Want) → AllTyped sig ws ts → (q : ℕ) (zs : List ℕ) → drop q bytes ≡ encodes ts ++ zs → (j : ℕ) → j < length ws
    → StandsAt sig bytes (hops next j q) (get_or ws j (want [] 0)) (nth ts j)
nth_stands sig bytes next ends long t[] [] h q zs e j lt = absurd (omega arith)
nth_stands sig bytes next ends long t[] (w ∷ ws) h q zs e j lt = absurd h
nth_stands sig bytes next ends long (t t∷ ts) [] h q zs e j lt = absurd h
nth_stands sig bytes next ends long (t t∷ ts) (w ∷ ws) h q zs e zero lt =
    record { others = encodes ts ++ zs; has = record { few = h.0; typed = h.1 }; is = e ∙ append_assoc (encode t) (encodes ts) zs }
nth_stands sig bytes next ends long (t t∷ ts) (w ∷ ws) h q zs e (suc j) lt =
    let e' = e ∙ append_assoc (encode t) (encodes ts) zs in
    let from : 0 ≤ q = omega arith in
    let at = ends q from w.scope w.ty t (encodes ts ++ zs) (record { few = h.0; typed = h.1 }) e' in
    let room = within bytes q t (encodes ts ++ zs) e' in
    let some = encode_some t in
    let low : q < length next = omega arith in
    let to = ap (λ b. cond b (get_or next q 0) q) (lt-ltb q (length next) low) ∙ at in
    subst (λ k. StandsAt sig bytes (hops next j k) (get_or ws j (want [] 0)) (nth ts j)) (sym to)
    (nth_stands sig bytes next ends long ts ws h.2 (q + length (encode t)) zs (past_part bytes q (encode t) (encodes ts ++ zs) e') j (omega arith))

-- a term is its head and its parts
record Whole (sig : Sig) (s : List ℕ) (ty : ℕ) (t : Term) : Type 0 where
  hd : List ℕ
  long : length hd ≡ head_in t
  is : encode t ≡ hd ++ encodes (parts_in t)
  all : AllTyped sig (wants_in sig s ty t) (parts_in t)

whole : (sig : Sig) (s : List ℕ) (ty : ℕ) (t : Term) → length s ≤ 64 → Typed sig s ty t → Whole sig s ty t
whole sig s ty (var v) l h = record { hd = 0 ∷ (v ∷ []); long = refl; is = refl; all = tt }
whole sig s ty (unknown k) l h = record { hd = 1 ∷ (k ∷ []); long = refl; is = refl; all = tt }
whole sig s ty (con k c ts) l h = record { hd = 2 ∷ (k ∷ (c ∷ [])); long = refl; is = refl; all = subst (λ y. AllTyped sig (each_of s (arguments sig y c)) ts) (sym h.0) h.2 }
whole sig s ty (call f ts) l h = record { hd = 3 ∷ (f ∷ []); long = refl; is = refl; all = h.2 }
whole sig s ty (case k u us) l h = record { hd = 4 ∷ (k ∷ []); long = refl; is = refl; all = (l, h.1, h.2) }
whole sig s ty (both a b) l h = record { hd = 5 ∷ []; long = refl; is = ap (λ bs. 5 ∷ (encode a ++ bs)) (sym (append-nil (encode b))); all = (l, h.1, (l, h.2, tt)) }
whole sig s ty (not a) l h = record { hd = 6 ∷ []; long = refl; is = ap (λ bs. 6 ∷ bs) (sym (append-nil (encode a))); all = (l, h.1, tt) }
whole sig s ty (equal k a b) l h = record { hd = 7 ∷ (k ∷ []); long = refl; is = ap (λ bs. 7 ∷ (k ∷ (encode a ++ bs))) (sym (append-nil (encode b))); all = (l, h.2, (l, h.3, tt)) }

pub ends_give_parts_lem : EndsGiveParts
ends_give_parts_lem sig bytes next ends long p w t st j lt =
    let o = whole sig w.scope w.ty t st.has.few st.has.typed in
    let zs = st.others in
    let e = st.is ∙ ap (λ bs. bs ++ zs) o.is ∙ append_assoc o.hd (encodes (parts_in t)) zs in
    subst (λ k. StandsAt sig bytes (hops next j (p + k)) (get_or (wants_in sig w.scope w.ty t) j (want [] 0)) (nth (parts_in t) j)) o.long
    (nth_stands sig bytes next ends long (parts_in t) (wants_in sig w.scope w.ty t) o.all (p + length o.hd) zs (past_part bytes p o.hd (encodes (parts_in t) ++ zs) e) j lt)
