-- What is read is a typed term with these bytes. Assumes nothing.
use Rattle.std.proofs.Common.{◌≡◌, ℕ, suc, ◌+◌, ◌≤◌, Bool, true, false, cond, eqb, leb, List, [], ◌∷◌, ◌++◌, length, drop, Ok, Err, Result, sym, refl, ap, ◌∙◌, subst, append_assoc, arith, ltb-true, eqb-true, leb-true}
use Rattle.std.proofs.lemmas.List.{append-nil}
use Rattle.std.proofs.lemmas.Bool.{and_parts, cond_both}
use Rattle.reading.specs.declared.parts.Tag.{Tag}
use Rattle.reading.specs.declared.parts.Tag.TheVariants.{Variable, Unknown, Constructor, Call, Case, And, Not, Equal, Other}
use Rattle.reading.specs.declared.parts.Part.{Part}
use Rattle.reading.specs.declared.parts.Part.TheVariants.{Start, WhichVariable, WhichUnknown, OwnType, WhichConstructor, WhichFunction, SubjectType, SidesType}
use Rattle.syntax.specs.Terms.{Term, Terms, var, unknown, con, call, case, equal, t[], ◌t∷◌, encode, encodes}
use Rattle.syntax.specs.Typing.{Sig, Want, Typed, AllTyped, each_of, arguments, params_of, cases_of, branches_of}
use Rattle.reading.specs.Reading.{Item, item, start, starts, begins, tag_of, tag_asks, tag_makes, allows, asks, allowed, asked, makes, made, first, rest, front, after, reads}

-- the bytes of a term from a part of it on
abbrev pub passed : Part → ℕ
passed Start = 0
passed WhichVariable = 1
passed WhichUnknown = 1
passed OwnType = 1
passed WhichConstructor = 2
passed WhichFunction = 1
passed SubjectType = 1
passed SidesType = 1

abbrev pub tail : Part → Term → List ℕ
tail p t = drop (passed p) (encode t)

-- the form that a term has at a part of it
abbrev pub Shape : Part → List ℕ → ℕ → Term → Type 0
Shape Start s ty t = length s ≤ 64
Shape WhichVariable s ty t = (v : ℕ) × (t ≡ var v)
Shape WhichUnknown s ty t = (k : ℕ) × (t ≡ unknown k)
Shape OwnType s ty t = (k c : ℕ) × (ts : Terms) × (t ≡ con k c ts)
Shape WhichConstructor s ty t = (c : ℕ) × (ts : Terms) × (t ≡ con ty c ts)
Shape WhichFunction s ty t = (f : ℕ) × (ts : Terms) × (t ≡ call f ts)
Shape SubjectType s ty t = (k : ℕ) × (u : Term) × (us : Terms) × (t ≡ case k u us)
Shape SidesType s ty t = (k : ℕ) × (a b : Term) × (t ≡ equal k a b)

-- an equation has the type Bool
abbrev pub type_at : Part → ℕ → ℕ
type_at Start ty = ty
type_at WhichVariable ty = ty
type_at WhichUnknown ty = ty
type_at OwnType ty = ty
type_at WhichConstructor ty = ty
type_at WhichFunction ty = ty
type_at SubjectType ty = ty
type_at SidesType ty = 0

pub record Has (sig : Sig) (i : Item) (t : Term) : Type 0 where
  pub shape : Shape i.part i.want.scope i.want.ty t
  pub typed : Typed sig i.want.scope (type_at i.part i.want.ty) t

abbrev pub Fit : Sig → List Item → Terms → List ℕ → Type 0
Fit sig [] ts bs = (ts ≡ t[]) × (bs ≡ [])
Fit sig (i ∷ is) ts bs = (t : Term) × (us : Terms) × (ys : List ℕ) × (ts ≡ t t∷ us) × (bs ≡ tail i.part t ++ ys) × Has sig i t × Fit sig is us ys

pub record Split (sig : Sig) (js is : List Item) (ts : Terms) (bs : List ℕ) : Type 0 where
  pub xs : List ℕ
  pub zs : List ℕ
  pub here : Fit sig js (front (length js) ts) xs
  pub there : Fit sig is (after (length js) ts) zs
  pub both : bs ≡ xs ++ zs

split : (sig : Sig) (js is : List Item) (ts : Terms) (bs : List ℕ) → Fit sig (js ++ is) ts bs → Split sig js is ts bs
split sig [] is ts bs f = record { xs = []; zs = bs; here = (refl, refl); there = f; both = refl }
split sig (j ∷ js) is ts bs f =
    let q = split sig js is f.1 f.2 f.6 in
    let n = length js in
    record {
      xs = tail j.part f.0 ++ q.xs;
      zs = q.zs;
      here = (f.0, front n f.1, q.xs, ap (front (suc n)) f.3, refl, f.5, q.here);
      there = subst (λ us. Fit sig is us q.zs) (sym (ap (after (suc n)) f.3)) q.there;
      both = f.4 ∙ ap (λ ys. tail j.part f.0 ++ ys) q.both ∙ sym (append_assoc (tail j.part f.0) q.xs q.zs);
    }

module _ (sig : Sig) where
  pub one_of : (j : Item) (ts : Terms) (xs : List ℕ) → Fit sig (j ∷ []) ts xs → Has sig j (first ts) × (xs ≡ tail j.part (first ts))
  one_of j ts xs f =
      let e = sym (ap first f.3) in (
        subst (Has sig j) e f.5,
        f.4 ∙ ap (λ ys. tail j.part f.0 ++ ys) f.6.1 ∙ append-nil (tail j.part f.0) ∙ ap (tail j.part) e,
      )

  pub two_of : (j k : Item) (ts : Terms) (xs : List ℕ) → Fit sig (j ∷ (k ∷ [])) ts xs
      → Has sig j (first ts) × Has sig k (first (rest ts)) × (xs ≡ tail j.part (first ts) ++ tail k.part (first (rest ts)))
  two_of j k ts xs f =
      let e = sym (ap first f.3) in
      let g = one_of k f.1 f.2 f.6 in
      let d = sym (ap (λ us. first (rest us)) f.3) in (
        subst (Has sig j) e f.5,
        subst (Has sig k) d g.0,
        f.4 ∙ ap (λ t. tail j.part t ++ f.2) e ∙ ap (λ ys. tail j.part (first ts) ++ ys) (g.1 ∙ ap (tail k.part) d),
      )

  pub all_of : (ws : List Want) (ts : Terms) (xs : List ℕ) → Fit sig (starts ws) ts xs → AllTyped sig ws ts × (xs ≡ encodes ts)
  all_of [] ts xs f = (subst (AllTyped sig []) (sym f.0) tt, f.1 ∙ sym (ap encodes f.0))
  all_of (w ∷ ws) ts xs f =
      let g = all_of ws f.1 f.2 f.6 in (
        subst (AllTyped sig (w ∷ ws)) (sym f.3) (f.5.shape, f.5.typed, g.0),
        f.4 ∙ ap (λ ys. encode f.0 ++ ys) g.1 ∙ sym (ap encodes f.3),
      )

  pub then_all : (w : Want) (ws : List Want) (ts : Terms) (xs : List ℕ) → Fit sig (start w ∷ starts ws) ts xs
      → Has sig (start w) (first ts) × AllTyped sig ws (rest ts) × (xs ≡ encode (first ts) ++ encodes (rest ts))
  then_all w ws ts xs f =
      let g = all_of ws f.1 f.2 f.6 in (
        subst (Has sig (start w)) (sym (ap first f.3)) f.5,
        subst (AllTyped sig ws) (sym (ap rest f.3)) g.0,
        f.4 ∙ ap (λ ys. encode f.0 ++ ys) g.1 ∙ sym (ap (λ us. encode (first us) ++ encodes (rest us)) f.3),
      )

-- the byte of a tag
abbrev byte_of : ℕ → Tag → ℕ
byte_of b Variable = 0
byte_of b Unknown = 1
byte_of b Constructor = 2
byte_of b Call = 3
byte_of b Case = 4
byte_of b And = 5
byte_of b Not = 6
byte_of b Equal = 7
byte_of b Other = b

pub tag_byte : (b : ℕ) → byte_of b (tag_of b) ≡ b
tag_byte b =
    step 0 Variable _ refl (step 1 Unknown _ refl (step 2 Constructor _ refl (step 3 Call _ refl (step 4 Case _ refl (step 5 And _ refl (step 6 Not _ refl (step 7 Equal Other refl refl)))))))
  where
    step : (k : ℕ) (g h : Tag) → byte_of b g ≡ k → byte_of b h ≡ b → byte_of b (cond (eqb b k) g h) ≡ b
    step k g h e r = cond_both (eqb b k) g h (λ t. byte_of b t ≡ b) (λ t. e ∙ sym (eqb-true b k t)) (λ t. r)

-- what a byte makes is typed, and begins with that byte
pub record Made (sig : Sig) (p : Part) (s : List ℕ) (ty b : ℕ) (t : Term) (xs : List ℕ) : Type 0 where
  pub has : Has sig (item p s ty) t
  pub bytes : tail p t ≡ b ∷ xs

by_tag : (sig : Sig) (s : List ℕ) (ty b : ℕ) (ts : Terms) (xs : List ℕ) → length s ≤ 64 → (g : Tag) → byte_of b g ≡ b → begins ty g ≡ true
    → Fit sig (tag_asks s ty g) ts xs → Made sig Start s ty b (tag_makes g ts) xs
by_tag sig s ty b ts xs l Variable e a f =
    let h = one_of sig (item WhichVariable s ty) ts xs f in
    record { has = record { shape = l; typed = h.0.typed }; bytes = subst (λ t. encode t ≡ 0 ∷ tail WhichVariable t) (sym h.0.shape.1) refl ∙ ap (λ ys. 0 ∷ ys) (sym h.1) ∙ ap (λ k. k ∷ xs) e }
by_tag sig s ty b ts xs l Unknown e a f =
    let h = one_of sig (item WhichUnknown s ty) ts xs f in
    record { has = record { shape = l; typed = h.0.typed }; bytes = subst (λ t. encode t ≡ 1 ∷ tail WhichUnknown t) (sym h.0.shape.1) refl ∙ ap (λ ys. 1 ∷ ys) (sym h.1) ∙ ap (λ k. k ∷ xs) e }
by_tag sig s ty b ts xs l Constructor e a f =
    let h = one_of sig (item OwnType s ty) ts xs f in
    record { has = record { shape = l; typed = h.0.typed }; bytes = subst (λ t. encode t ≡ 2 ∷ tail OwnType t) (sym h.0.shape.3) refl ∙ ap (λ ys. 2 ∷ ys) (sym h.1) ∙ ap (λ k. k ∷ xs) e }
by_tag sig s ty b ts xs l Call e a f =
    let h = one_of sig (item WhichFunction s ty) ts xs f in
    record { has = record { shape = l; typed = h.0.typed }; bytes = subst (λ t. encode t ≡ 3 ∷ tail WhichFunction t) (sym h.0.shape.2) refl ∙ ap (λ ys. 3 ∷ ys) (sym h.1) ∙ ap (λ k. k ∷ xs) e }
by_tag sig s ty b ts xs l Case e a f =
    let h = one_of sig (item SubjectType s ty) ts xs f in
    record { has = record { shape = l; typed = h.0.typed }; bytes = subst (λ t. encode t ≡ 4 ∷ tail SubjectType t) (sym h.0.shape.3) refl ∙ ap (λ ys. 4 ∷ ys) (sym h.1) ∙ ap (λ k. k ∷ xs) e }
by_tag sig s ty b ts xs l And e a f =
    let h = two_of sig (item Start s 0) (item Start s 0) ts xs f in
    record { has = record { shape = l; typed = (eqb-true ty 0 a, h.0.typed, h.1.typed) }; bytes = ap (λ ys. 5 ∷ ys) (sym h.2) ∙ ap (λ k. k ∷ xs) e }
by_tag sig s ty b ts xs l Not e a f =
    let h = one_of sig (item Start s 0) ts xs f in
    record { has = record { shape = l; typed = (eqb-true ty 0 a, h.0.typed) }; bytes = ap (λ ys. 6 ∷ ys) (sym h.1) ∙ ap (λ k. k ∷ xs) e }
by_tag sig s ty b ts xs l Equal e a f =
    let h = one_of sig (item SidesType s ty) ts xs f in
    record { has = record { shape = l; typed = subst (λ k. Typed sig s k (first ts)) (sym (eqb-true ty 0 a)) h.0.typed }; bytes = subst (λ t. encode t ≡ 7 ∷ tail SidesType t) (sym h.0.shape.3) refl ∙ ap (λ ys. 7 ∷ ys) (sym h.1) ∙ ap (λ k. k ∷ xs) e }
by_tag sig s ty b ts xs l Other e a f = absurd (let z : ◌≡◌ {A = ℕ} 0 1 = cc in omega arith)

made_by : (sig : Sig) (p : Part) (s : List ℕ) (ty b : ℕ) (ts : Terms) (xs : List ℕ) → allows sig p s ty b ≡ true
    → Fit sig (asks sig p s ty b) ts xs → Made sig p s ty b (makes p ty b ts) xs
made_by sig Start s ty b ts xs a f =
    let q = and_parts (leb (length s) 64) (begins ty (tag_of b)) a in
    by_tag sig s ty b ts xs (leb-true (length s) 64 q.0) (tag_of b) (tag_byte b) q.1 f
made_by sig WhichVariable s ty v ts xs a f =
    let q = and_parts _ _ a in
    record { has = record { shape = (v, refl); typed = (ltb-true _ _ q.0, eqb-true _ _ q.1) }; bytes = ap (λ ys. v ∷ ys) (sym f.1) }
made_by sig WhichUnknown s ty k ts xs a f =
    let q = and_parts _ _ a in
    record { has = record { shape = (k, refl); typed = (ltb-true _ _ q.0, eqb-true _ _ q.1) }; bytes = ap (λ ys. k ∷ ys) (sym f.1) }
made_by sig OwnType s ty t ts xs a f =
    let h = one_of sig (item WhichConstructor s ty) ts xs f in
    let m = h.0.shape in
    record {
      has = record { shape = (ty, m.0, m.1, m.2); typed = h.0.typed };
      bytes = subst (λ u. tail OwnType u ≡ ty ∷ tail WhichConstructor u) (sym m.2) refl ∙ ap (λ ys. ty ∷ ys) (sym h.1) ∙ ap (λ k. k ∷ xs) (sym (eqb-true t ty a));
    }
made_by sig WhichConstructor s ty c ts xs a f =
    let h = all_of sig (each_of s (arguments sig ty c)) ts xs f in
    record { has = record { shape = (c, ts, refl); typed = (refl, ltb-true _ _ a, h.0) }; bytes = ap (λ ys. c ∷ ys) (sym h.1) }
made_by sig WhichFunction s ty g ts xs a f =
    let q = and_parts _ _ a in
    let h = all_of sig (each_of s (params_of sig g)) ts xs f in
    record { has = record { shape = (g, ts, refl); typed = (ltb-true _ _ q.0, eqb-true _ _ q.1, h.0) }; bytes = ap (λ ys. g ∷ ys) (sym h.1) }
made_by sig SubjectType s ty t ts xs a f =
    let h = then_all sig (record { ty = t; scope = s }) (branches_of s ty (cases_of sig t)) ts xs f in
    record { has = record { shape = (t, first ts, rest ts, refl); typed = (ltb-true _ _ a, h.0.typed, h.1) }; bytes = ap (λ ys. t ∷ ys) (sym h.2) }
made_by sig SidesType s ty t ts xs a f =
    let h = two_of sig (item Start s t) (item Start s t) ts xs f in
    record { has = record { shape = (t, first ts, first (rest ts), refl); typed = (refl, ltb-true _ _ a, h.0.typed, h.1.typed) }; bytes = ap (λ ys. t ∷ ys) (sym h.2) }

nothing : {X : Type 0} {ts : Terms} {p : ℕ} → ◌≡◌ {A = Result Terms ℕ} (Err p) (Ok ts) → X
nothing e = absurd (let z : ◌≡◌ {A = ℕ} 0 1 = cc in omega arith)

pub sound : (bs : List ℕ) (sig : Sig) (is : List Item) (p : ℕ) (ts : Terms) → reads sig is bs p ≡ Ok ts → Fit sig is ts bs
sound [] sig [] p ts e = (cc, refl)
sound [] sig (i ∷ is) p ts e = nothing e
sound (b ∷ bs) sig [] p ts e = nothing e
sound (b ∷ bs) sig (i ∷ is) p ts e = go (allowed sig i b) refl (reads sig (asked sig i b ++ is) bs (p + 1)) refl (sound bs sig (asked sig i b ++ is) (p + 1)) e
  where
    go : (t : Bool) → allowed sig i b ≡ t → (r : Result Terms ℕ) → reads sig (asked sig i b ++ is) bs (p + 1) ≡ r
        → ((us : Terms) → reads sig (asked sig i b ++ is) bs (p + 1) ≡ Ok us → Fit sig (asked sig i b ++ is) us bs)
        → cond t (made i b (length (asked sig i b)) r) (Err p) ≡ Ok ts → Fit sig (i ∷ is) ts (b ∷ bs)
    go false a r er ih e = nothing e
    go true a (Err q) er ih e = nothing e
    go true a (Ok us) er ih e =
        let k = length (asked sig i b) in
        let q = split sig (asked sig i b) is us bs (ih us er) in
        let m = made_by sig i.part i.want.scope i.want.ty b (front k us) q.xs a q.here in
        let t = makes i.part i.want.ty b (front k us) in (
          t,
          after k us,
          q.zs,
          cc,
          ap (λ ys. b ∷ ys) q.both ∙ ap (λ ys. ys ++ q.zs) (sym m.bytes),
          m.has,
          q.there,
        )
