-- What the reading of bytes says of terms: what is read is typed, what is typed is read, and a refusal rests on the bytes
-- up to its place. Assumes nothing.
use Rattle.std.proofs.Common.{◌≡◌, ℕ, ◌+◌, ◌-◌, ◌≤◌, List, [], ◌∷◌, ◌++◌, length, get_or, take, drop, Ok, Err, Result, sym, refl, ap, ◌∙◌, subst, arith}
use Rattle.std.proofs.lemmas.List.{append-nil, append_assoc, take-append-drop, take_more, drop_more, length-take-le}
use Rattle.syntax.specs.Terms.{Term, Terms, t[], ◌t∷◌, encode}
use Rattle.syntax.specs.Typing.{Sig, HasType}
use Rattle.reading.specs.declared.parts.Part.TheVariants.{Start}
use Rattle.reading.specs.Reading.{item, first, reads, first_read, reading, verdict}
use Rattle.reading.specs.Verdicts.{Says, ReadingIsExact}
use Rattle.reading.proofs.Complete.{full}
use Rattle.reading.proofs.Sound.{sound}
use Rattle.reading.proofs.Early.{between, early}

module _ (sig : Sig) (s : List ℕ) (ty : ℕ) where
  abbrev all_read : ℕ → List ℕ → Result Terms ℕ
  all_read p bs = reads sig (item Start s ty ∷ []) bs p

  full_read : (p : ℕ) (bs : List ℕ) (t : Term) → HasType sig s t ty → encode t ≡ bs → all_read p bs ≡ Ok (t t∷ t[])
  full_read p bs t h e =
      ap (all_read p) (sym (append-nil (encode t) ∙ e))
      ∙ (full t sig s ty h.few h.typed [] [] t[] (record { at = λ q. refl })).at p

  -- the bytes of a typed term are read as that term
  pub complete : (p : ℕ) (bs : List ℕ) (t : Term) → HasType sig s t ty → encode t ≡ bs → reading sig s ty p bs ≡ Ok t
  complete p bs t h e = ap first_read (full_read p bs t h e)

  -- two typed terms with the same bytes are the same
  pub unique : (bs : List ℕ) (t u : Term) → HasType sig s t ty → encode t ≡ bs → HasType sig s u ty → encode u ≡ bs → u ≡ t
  unique bs t u h e g d =
      let a = complete 0 bs t h e in
      let b = complete 0 bs u g d in
      cc

  -- the bytes that are read as terms are those of a typed term, the first of them
  pub record Found (bs : List ℕ) (ts : Terms) : Type 0 where
    pub has : HasType sig s (first ts) ty
    pub is : encode (first ts) ≡ bs

  found : (p : ℕ) (bs : List ℕ) (ts : Terms) → all_read p bs ≡ Ok ts → Found bs ts
  found p bs ts e =
      let f = sound bs sig (item Start s ty ∷ []) p ts e in
      let same = sym (ap first f.3) in
      let h : HasType sig s f.0 ty = record { few = f.5.shape; typed = f.5.typed } in
      let d : encode f.0 ≡ bs = sym (f.4 ∙ ap (λ ys. encode f.0 ++ ys) f.6.1 ∙ append-nil (encode f.0)) in
      record { has = subst (λ t. HasType sig s t ty) same h; is = subst (λ t. encode t ≡ bs) same d }

  clash : {r : Result Terms ℕ} {ts : Terms} {p : ℕ} → r ≡ Ok ts → r ≡ Err p → ⊥
  clash a e = let z : ◌≡◌ {A = ℕ} 0 1 = cc in omega arith

  read_sound : (p : ℕ) (bs : List ℕ) (t : Term) → reading sig s ty p bs ≡ Ok t → HasType sig s t ty × (encode t ≡ bs)
  read_sound p bs t e = go (all_read p bs) refl e
    where
      go : (r : Result Terms ℕ) → all_read p bs ≡ r → first_read r ≡ Ok t → HasType sig s t ty × (encode t ≡ bs)
      go (Ok ts) d e =
          let f = found p bs ts d in
          let same : first ts ≡ t = cc in
          (subst (λ u. HasType sig s u ty) same f.has, subst (λ u. encode u ≡ bs) same f.is)
      go (Err q) d e = absurd (let z : ◌≡◌ {A = ℕ} 0 1 = cc in omega arith)

  pub says : (base : ℕ) (bs : List ℕ) → Says sig s ty base bs (verdict (reading sig s ty base bs))
  says base bs = go (all_read base bs) refl
    where
      go : (r : Result Terms ℕ) → all_read base bs ≡ r → Says sig s ty base bs (verdict (first_read r))
      go (Ok ts) e =
          let f = found base bs ts e in
          record { term = first ts; has = f.has; is = f.is; only = λ u g b. unique bs (first ts) u f.has f.is g b }
      go (Err q) e =
          let on = between bs sig (item Start s ty ∷ []) base q e in
          let from : base ≤ q = on.0 in
          let upto : q ≤ base + length bs = on.1 in
          let p = q - base in
          record {
            at = p;
            is = omega arith;
            refused = record {
              within = omega arith;
              none = λ t h d. clash (full_read base bs t h d) e;
              begins = λ lt t zs h d.
                  let b = get_or bs p 0 in
                  let whole : bs ≡ take p bs ++ (b ∷ drop (p + 1) bs) = sym (take-append-drop p bs) ∙ ap (λ ys. take p bs ++ ys) (drop_more bs p 0 lt) in
                  let long : length (take p bs) ≡ p = length-take-le p bs (omega arith) in
                  let at : q ≡ base + length (take p bs) = omega arith in
                  let same = early (take p bs) sig (item Start s ty ∷ []) base q b (drop (p + 1) bs) zs at (ap (all_read base) (sym whole) ∙ e) in
                  let form : encode t ≡ take p bs ++ (b ∷ zs) = d ∙ ap (λ xs. xs ++ zs) (take_more bs p 0 lt) ∙ append_assoc (take p bs) (b ∷ []) zs in
                  clash (full_read base (take p bs ++ (b ∷ zs)) t h form) same;
            };
          }

pub reading_is_exact_lem : ReadingIsExact
reading_is_exact_lem sig s ty base bs t =
    record { sound = read_sound sig s ty base bs t; complete = complete sig s ty base bs t }
