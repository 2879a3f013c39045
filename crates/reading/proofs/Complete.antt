-- The bytes of a typed term are read as that term. Assumes nothing.
use Rattle.std.proofs.Common.{◌≡◌, ℕ, suc, ◌+◌, ◌≤◌, Bool, true, cond, ◌&&◌, leb, List, [], ◌∷◌, ◌++◌, length, Ok, Err, sym, refl, ap, ◌∙◌, subst, append_assoc, lt-ltb, eq-eqb, le-leb}
use Rattle.std.proofs.lemmas.Bool.{and_from}
use Rattle.reading.specs.declared.parts.Part.{Part}
use Rattle.reading.specs.declared.parts.Part.TheVariants.{Start, WhichVariable, WhichUnknown, OwnType, WhichConstructor, WhichFunction, SubjectType, SidesType}
use Rattle.syntax.specs.Terms.{Term, Terms, var, unknown, con, call, case, both, not, equal, t[], ◌t∷◌, encode, encodes}
use Rattle.syntax.specs.Typing.{Sig, Want, Typed, AllTyped, each_of, arguments, params_of, cases_of, branches_of}
use Rattle.reading.specs.Reading.{Item, item, starts, allowed, asked, makes, made, front, after, reads}

pub record Reads (sig : Sig) (is : List Item) (bs : List ℕ) (us : Terms) : Type 0 where
  pub at : (p : ℕ) → reads sig is bs p ≡ Ok us

abbrev pub join : Terms → Terms → Terms
join t[] us = us
join (t t∷ ts) us = t t∷ join ts us

abbrev size : Terms → ℕ
size t[] = 0
size (t t∷ ts) = suc (size ts)

front_join : (ts us : Terms) → front (size ts) (join ts us) ≡ ts
front_join t[] us = refl
front_join (t t∷ ts) us = ap (λ xs. t t∷ xs) (front_join ts us)

after_join : (ts us : Terms) → after (size ts) (join ts us) ≡ us
after_join t[] us = refl
after_join (t t∷ ts) us = after_join ts us

-- one byte that is allowed
byte : (sig : Sig) (p : Part) (s : List ℕ) (ty b : ℕ) (is : List Item) (bs : List ℕ) (ts us : Terms)
    → allowed sig (item p s ty) b ≡ true → size ts ≡ length (asked sig (item p s ty) b) → Reads sig (asked sig (item p s ty) b ++ is) bs (join ts us)
    → Reads sig (item p s ty ∷ is) (b ∷ bs) (makes p ty b ts t∷ us)
byte sig p s ty b is bs ts us a n r = record {
  at = λ q.
      let i = item p s ty in
      let k = length (asked sig i b) in
      ap (λ t. cond t (made i b k (reads sig (asked sig i b ++ is) bs (q + 1))) (Err q)) a
      ∙ ap (made i b k) (r.at (q + 1))
      ∙ ap (λ m. made i b m (Ok (join ts us))) (sym n)
      ∙ ap (λ xs. Ok (makes p ty b xs t∷ after (size ts) (join ts us))) (front_join ts us)
      ∙ ap (λ xs. Ok (makes p ty b ts t∷ xs)) (after_join ts us);
}

all_size : (sig : Sig) (ts : Terms) (ws : List Want) → AllTyped sig ws ts → size ts ≡ length (starts ws)
all_size sig t[] [] h = refl
all_size sig t[] (w ∷ ws) h = absurd h
all_size sig (t t∷ ts) [] h = absurd h
all_size sig (t t∷ ts) (w ∷ ws) h = ap suc (all_size sig ts ws h.2)

fits : (s : List ℕ) (b : Bool) → length s ≤ 64 → b ≡ true → (leb (length s) 64 && b) ≡ true
fits s b h e = and_from _ b (le-leb (length s) 64 h) e

mutual
  pub full : (t : Term) (sig : Sig) (s : List ℕ) (ty : ℕ) → length s ≤ 64 → Typed sig s ty t → (is : List Item) (bs : List ℕ) (us : Terms) → Reads sig is bs us
      → Reads sig (item Start s ty ∷ is) (encode t ++ bs) (t t∷ us)
  full (var v) sig s ty l h is bs us r =
      byte sig Start s ty 0 is (v ∷ bs) (var v t∷ t[]) us (fits s true l refl) refl
      (byte sig WhichVariable s ty v is bs t[] us (and_from _ _ (lt-ltb _ _ h.0) (eq-eqb _ _ h.1)) refl r)
  full (unknown k) sig s ty l h is bs us r =
      byte sig Start s ty 1 is (k ∷ bs) (unknown k t∷ t[]) us (fits s true l refl) refl
      (byte sig WhichUnknown s ty k is bs t[] us (and_from _ _ (lt-ltb _ _ h.0) (eq-eqb _ _ h.1)) refl r)
  full (con t c ts) sig s ty l h is bs us r =
      subst (λ k. Reads sig (item Start s ty ∷ is) (2 ∷ (k ∷ (c ∷ (encodes ts ++ bs)))) (con k c ts t∷ us)) (sym h.0)
      (byte sig Start s ty 2 is _ (con ty c ts t∷ t[]) us (fits s true l refl) refl
      (byte sig OwnType s ty ty is _ (con ty c ts t∷ t[]) us (eq-eqb ty ty refl) refl
      (byte sig WhichConstructor s ty c is _ ts us (lt-ltb _ _ h.1) (all_size sig ts (each_of s (arguments sig ty c)) h.2)
      (fulls ts sig (each_of s (arguments sig ty c)) h.2 is bs us r))))
  full (call f ts) sig s ty l h is bs us r =
      byte sig Start s ty 3 is _ (call f ts t∷ t[]) us (fits s true l refl) refl
      (byte sig WhichFunction s ty f is _ ts us (and_from _ _ (lt-ltb _ _ h.0) (eq-eqb _ _ h.1)) (all_size sig ts (each_of s (params_of sig f)) h.2)
      (fulls ts sig (each_of s (params_of sig f)) h.2 is bs us r))
  full (case t u vs) sig s ty l h is bs us r =
      subst (λ xs. Reads sig (item Start s ty ∷ is) (4 ∷ (t ∷ xs)) (case t u vs t∷ us)) (sym (append_assoc (encode u) (encodes vs) bs))
      (byte sig Start s ty 4 is _ (case t u vs t∷ t[]) us (fits s true l refl) refl
      (byte sig SubjectType s ty t is _ (u t∷ vs) us (lt-ltb _ _ h.0) (ap suc (all_size sig vs (branches_of s ty (cases_of sig t)) h.2))
      (full u sig s t l h.1 (starts (branches_of s ty (cases_of sig t)) ++ is) (encodes vs ++ bs) (join vs us)
      (fulls vs sig (branches_of s ty (cases_of sig t)) h.2 is bs us r))))
  full (both a b) sig s ty l h is bs us r =
      subst (λ xs. Reads sig (item Start s ty ∷ is) (5 ∷ xs) (both a b t∷ us)) (sym (append_assoc (encode a) (encode b) bs))
      (byte sig Start s ty 5 is _ (a t∷ b t∷ t[]) us (fits s _ l (eq-eqb _ _ h.0)) refl
      (full a sig s 0 l h.1 (item Start s 0 ∷ is) (encode b ++ bs) (b t∷ us) (full b sig s 0 l h.2 is bs us r)))
  full (not a) sig s ty l h is bs us r =
      byte sig Start s ty 6 is _ (a t∷ t[]) us (fits s _ l (eq-eqb _ _ h.0)) refl (full a sig s 0 l h.1 is bs us r)
  full (equal t a b) sig s ty l h is bs us r =
      subst (λ xs. Reads sig (item Start s ty ∷ is) (7 ∷ (t ∷ xs)) (equal t a b t∷ us)) (sym (append_assoc (encode a) (encode b) bs))
      (byte sig Start s ty 7 is _ (equal t a b t∷ t[]) us (fits s _ l (eq-eqb _ _ h.0)) refl
      (byte sig SidesType s ty t is _ (a t∷ b t∷ t[]) us (lt-ltb _ _ h.1) refl
      (full a sig s t l h.2 (item Start s t ∷ is) (encode b ++ bs) (b t∷ us) (full b sig s t l h.3 is bs us r))))

  pub fulls : (ts : Terms) (sig : Sig) (ws : List Want) → AllTyped sig ws ts → (is : List Item) (bs : List ℕ) (us : Terms) → Reads sig is bs us
      → Reads sig (starts ws ++ is) (encodes ts ++ bs) (join ts us)
  fulls t[] sig [] h is bs us r = r
  fulls t[] sig (w ∷ ws) h is bs us r = absurd h
  fulls (t t∷ ts) sig [] h is bs us r = absurd h
  fulls (t t∷ ts) sig (w ∷ ws) h is bs us r =
      subst (λ xs. Reads sig (starts (w ∷ ws) ++ is) xs (t t∷ join ts us)) (sym (append_assoc (encode t) (encodes ts) bs))
      (full t sig w.scope w.ty h.0 h.1 (starts ws ++ is) (encodes ts ++ bs) (join ts us) (fulls ts sig ws h.2 is bs us r))
