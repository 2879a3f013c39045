-- Bytes are read exactly if they write a model: what was read is written there, and what is written is read.
use Rattle.std.proofs.Common.{◌≡◌, ℕ, zero, suc, ◌+◌, ◌≤◌, Bool, true, false, cond, ◌&&◌, eqb, ltb, leb, List, [], ◌∷◌, ◌++◌, length, get_or, drop, Some, None, Ok, Err, Option, Result, sym, refl, ap, ◌∙◌, append_assoc, arith, length-append, length-drop}
use Rattle.std.proofs.lemmas.List.{drop_all}
use Rattle.std.proofs.lemmas.Bool.{ltb-false, lt-ltb, le-ltb, eqb-true, eq-eqb, leb-true, le-leb, and_parts, and_from}
use Rattle.syntax.specs.declared.faults.Fault.{Fault}
use Rattle.syntax.specs.declared.faults.Reason.TheVariants.{TooLong, NoMark, BadTerm, BytesAfter}
use Rattle.syntax.specs.Faults.{fault}
use Rattle.syntax.specs.Typing.{Sig, arguments}
use Rattle.syntax.specs.Problems.{sig_of}
use Rattle.records.specs.Reading.{and_then}
use Rattle.records.proofs.Results.{was_ok}
use Rattle.ends.proofs.Ending.{past_part}
use Rattle.model.specs.Partial.{Partial, open_part, built, Partials, p[], ◌p∷◌, OfType, OfTypes, written, all_written, encode_from}
use Rattle.model.specs.Reading.{there, right, ends, top_of, end_by, value_end, marked, start_of, preceded, places_from}
use Rattle.model.specs.Exact.{ReadingIsExact}
use Rattle.model.proofs.Ends.{value_open, value_built}
use Rattle.model.proofs.Bytes.{cond_ok, was_there, is_there, is_right, at_byte, three, TopAt, top_sound, top_open, top_built}

ok_is : {A : Type 0} (x y : A) → ◌≡◌ {A = Result A Fault} (Ok x) (Ok y) → x ≡ y
ok_is x y h = cc

module _ (sig : Sig) (bs : List ℕ) where
  -- a value of the type t is written from p to q
  abbrev ValueIn : ℕ → ℕ → ℕ → Type 0
  ValueIn t p q = (v : Partial) × OfType sig t v × (drop p bs ≡ written sig t v ++ drop q bs)

  abbrev ValuesIn : List ℕ → ℕ → ℕ → Type 0
  ValuesIn ts p q = (vs : Partials) × OfTypes sig ts vs × (drop p bs ≡ all_written sig ts vs ++ drop q bs)

  ends_sound : (one : ℕ → ℕ → Result ℕ Fault) → ((t p q : ℕ) → one t p ≡ Ok q → ValueIn t p q)
      → (ts : List ℕ) (p q : ℕ) → ends one ts p ≡ Ok q → ValuesIn ts p q
  ends_sound one sound [] p q h = (p[], tt, ap (λ i. drop i bs) (ok_is p q h))
  ends_sound one sound (t ∷ ts) p q h =
      let w = was_ok (one t p) (ends one ts) h in
      let v = sound t p w.0 w.1 in
      let vs = ends_sound one sound ts w.0 q w.2 in (
        v.0 p∷ vs.0,
        (v.1, vs.1),
        v.2 ∙ ap (λ xs. written sig t v.0 ++ xs) vs.2 ∙ sym (append_assoc (written sig t v.0) (all_written sig ts vs.0) (drop q bs)),
      )

  by_top : (one : ℕ → ℕ → Result ℕ Fault) (mark t p q : ℕ) (o : Option ℕ) → ((t p q : ℕ) → one t p ≡ Ok q → ValueIn t p q)
      → TopAt sig bs mark t p o → end_by one sig t p o ≡ Ok q → ValueIn t p q
  by_top one mark t p q None sound top h = (open_part, tt, top ∙ ap (λ i. 8 ∷ drop i bs) (ok_is (p + 1) q h))
  by_top one mark t p q (Some c) sound top h =
      let vs = ends_sound one sound (arguments sig t c) (p + 3) q h in
      (built c vs.0, (top.0, vs.1), top.2 ∙ ap (λ xs. 2 ∷ (t ∷ (c ∷ xs))) vs.2)

  value_sound : (n mark t p q : ℕ) → value_end n sig bs mark t p ≡ Ok q → ValueIn t p q
  unfolding value_end
  value_sound zero mark t p q h = let z : ◌≡◌ {A = ℕ} 0 1 = cc in absurd (omega arith)
  value_sound (suc n) mark t p q h =
      let w = was_ok (top_of sig bs mark t p) (end_by (value_end n sig bs mark) sig t p) h in
      by_top (value_end n sig bs mark) mark t p q w.0 (value_sound n mark) (top_sound sig bs mark t p w.0 w.1) w.2

  mutual
    pub value_complete : (v : Partial) (n mark t p : ℕ) (rest : List ℕ) → OfType sig t v → drop p bs ≡ written sig t v ++ rest → length bs ≤ p + n
        → value_end n sig bs mark t p ≡ Ok (p + length (written sig t v))
    value_complete open_part n mark t p rest typed h deep =
        sym (value_open n sig bs mark t p deep (sym (top_open sig bs mark t p rest h)))
    value_complete (built c vs) n mark t p rest typed h deep =
        let a = at_byte bs p 2 (t ∷ (c ∷ (all_written sig (arguments sig t c) vs ++ rest))) h in
        let b = at_byte bs (p + 1) t (c ∷ (all_written sig (arguments sig t c) vs ++ rest)) a.2 in
        let plus : p + 2 ≡ p + 1 + 1 = omega arith in
        let d = at_byte bs (p + 2) c (all_written sig (arguments sig t c) vs ++ rest) (ap (λ i. drop i bs) plus ∙ b.2) in
        let more : p + 3 ≡ p + 2 + 1 = omega arith in
        let all : p + 3 + length (all_written sig (arguments sig t c) vs) ≡ p + length (written sig t (built c vs)) = omega arith in
        sym (value_built n sig bs mark t p deep c (arguments sig t c) (Ok (p + length (written sig t (built c vs))))
        (sym (top_built sig bs mark t p c (all_written sig (arguments sig t c) vs ++ rest) typed.0 h)) refl (omega (arith, d.0))
        (λ k far. sym (values_complete vs k mark (arguments sig t c) (p + 3) rest typed.1 (ap (λ i. drop i bs) more ∙ d.2) far ∙ ap (λ (i : ℕ). Ok i) all)))

    values_complete : (vs : Partials) (n mark : ℕ) (ts : List ℕ) (p : ℕ) (rest : List ℕ) → OfTypes sig ts vs → drop p bs ≡ all_written sig ts vs ++ rest
        → length bs ≤ p + n → ends (value_end n sig bs mark) ts p ≡ Ok (p + length (all_written sig ts vs))
    values_complete p[] n mark [] p rest typed h deep = ap (λ (i : ℕ). Ok i) (omega arith)
    values_complete p[] n mark (t ∷ ts) p rest typed h deep = absurd typed
    values_complete (v p∷ vs) n mark [] p rest typed h deep = absurd typed
    values_complete (v p∷ vs) n mark (t ∷ ts) p rest typed h deep =
        let whole = h ∙ append_assoc (written sig t v) (all_written sig ts vs) rest in
        let q : ℕ = p + length (written sig t v) in
        let sum = length-append (written sig t v) (all_written sig ts vs) in
        let all : q + length (all_written sig ts vs) ≡ p + length (written sig t v ++ all_written sig ts vs) = omega arith in
        ap (λ (r : Result ℕ Fault). and_then r (ends (value_end n sig bs mark) ts))
        (value_complete v n mark t p (all_written sig ts vs ++ rest) typed.0 whole deep)
        ∙ values_complete vs n mark ts q rest typed.1 (past_part bs p (written sig t v) (all_written sig ts vs ++ rest) whole) (omega arith)
        ∙ ap (λ (i : ℕ). Ok i) all

  abbrev numbered : ℕ → ℕ → Result ℕ Fault
  numbered k p = right (p + 2) (eqb (get_or bs (p + 2) 0) k) (Ok (p + 3))

  start_sound : (k p v : ℕ) → start_of bs k p ≡ Ok v → (v ≡ p + 3) × (drop p bs ≡ 0x4D ∷ (0x44 ∷ (k ∷ drop (p + 3) bs)))
  start_sound k p v h =
      let a = cond_ok (marked bs p) (there bs p (p + 2) (numbered k p)) (fault NoMark p) v h in
      let m = and_parts (ltb (p + 1) (length bs)) (eqb (get_or bs p 0) 0x4D && eqb (get_or bs (p + 1) 0) 0x44) a.0 in
      let two = and_parts (eqb (get_or bs p 0) 0x4D) (eqb (get_or bs (p + 1) 0) 0x44) m.1 in
      let b = was_there bs p (p + 2) (numbered k p) v a.1 in
      let c = cond_ok (eqb (get_or bs (p + 2) 0) k) (Ok (p + 3)) (fault BadTerm (p + 2)) v b.1 in (
        sym (ok_is (p + 3) v c.1),
        three bs p b.0
            ∙ ap (λ x. x ∷ (get_or bs (p + 1) 0 ∷ (get_or bs (p + 2) 0 ∷ drop (p + 3) bs))) (eqb-true (get_or bs p 0) 0x4D two.0)
            ∙ ap (λ x. 0x4D ∷ (x ∷ (get_or bs (p + 2) 0 ∷ drop (p + 3) bs))) (eqb-true (get_or bs (p + 1) 0) 0x44 two.1)
            ∙ ap (λ x. 0x4D ∷ (0x44 ∷ (x ∷ drop (p + 3) bs))) (eqb-true (get_or bs (p + 2) 0) k c.0),
      )

  pub start_complete : (k p : ℕ) (rest : List ℕ) → drop p bs ≡ 0x4D ∷ (0x44 ∷ (k ∷ rest)) → (start_of bs k p ≡ Ok (p + 3)) × (drop (p + 3) bs ≡ rest) × (p + 3 ≤ length bs)
  start_complete k p rest h =
      let a = at_byte bs p 0x4D (0x44 ∷ (k ∷ rest)) h in
      let b = at_byte bs (p + 1) 0x44 (k ∷ rest) a.2 in
      let plus : p + 2 ≡ p + 1 + 1 = omega arith in
      let d = at_byte bs (p + 2) k rest (ap (λ i. drop i bs) plus ∙ b.2) in
      let more : p + 3 ≡ p + 2 + 1 = omega arith in
      let m : marked bs p ≡ true =
      and_from (ltb (p + 1) (length bs)) (eqb (get_or bs p 0) 0x4D && eqb (get_or bs (p + 1) 0) 0x44) (lt-ltb (p + 1) (length bs) b.0)
      (and_from (eqb (get_or bs p 0) 0x4D) (eqb (get_or bs (p + 1) 0) 0x44) (eq-eqb (get_or bs p 0) 0x4D a.1) (eq-eqb (get_or bs (p + 1) 0) 0x44 b.1)) in (
        ap (λ (x : Bool). cond x (there bs p (p + 2) (numbered k p)) (Err (fault NoMark p))) m
            ∙ is_there bs p (p + 2) (numbered k p) d.0
            ∙ is_right (p + 2) (eqb (get_or bs (p + 2) 0) k) (Ok (p + 3)) (eq-eqb (get_or bs (p + 2) 0) k d.1),
        ap (λ i. drop i bs) more ∙ d.2,
        omega (arith, d.0),
      )

  preceded_ok : (x : ℕ) (r : Result (List ℕ) Fault) (ys : List ℕ) → preceded x r ≡ Ok ys → (xs : List ℕ) × (r ≡ Ok xs)
  preceded_ok x (Ok xs) ys h = (xs, refl)
  preceded_ok x (Err e) ys h = let z : ◌≡◌ {A = ℕ} 0 1 = cc in absurd (omega arith)

  at_end : (b : Bool) (p : ℕ) (roots : List ℕ) → cond b (Err (fault BytesAfter p)) (Ok []) ≡ Ok roots → b ≡ false
  at_end true p roots h = let z : ◌≡◌ {A = ℕ} 0 1 = cc in absurd (omega arith)
  at_end false p roots h = refl

  places_sound : (k : ℕ) (ts : List ℕ) (p : ℕ) (roots : List ℕ) → places_from sig bs k ts p ≡ Ok roots
      → (vs : Partials) × OfTypes sig ts vs × (drop p bs ≡ encode_from sig k ts vs)
  places_sound k [] p roots h = (p[], tt, drop_all p bs (ltb-false p (length bs) (at_end (ltb p (length bs)) p roots h)))
  places_sound k (t ∷ ts) p roots h =
      let a = was_ok (start_of bs k p) (λ v. and_then (value_end (length bs) sig bs p t v) (λ q. preceded v (places_from sig bs (k + 1) ts q))) h in
      let s = start_sound k p a.0 a.1 in
      let b = was_ok (value_end (length bs) sig bs p t a.0) (λ q. preceded a.0 (places_from sig bs (k + 1) ts q)) a.2 in
      let v = value_sound (length bs) p t a.0 b.0 b.1 in
      let c = preceded_ok a.0 (places_from sig bs (k + 1) ts b.0) roots b.2 in
      let vs = places_sound (k + 1) ts b.0 c.0 c.1 in (
        v.0 p∷ vs.0,
        (v.1, vs.1),
        s.1 ∙ ap (λ i. 0x4D ∷ (0x44 ∷ (k ∷ drop i bs))) (sym s.0) ∙ ap (λ xs. 0x4D ∷ (0x44 ∷ (k ∷ xs))) (v.2 ∙ ap (λ xs. written sig t v.0 ++ xs) vs.2),
      )

  places_complete : (vs : Partials) (k : ℕ) (ts : List ℕ) (p : ℕ) → OfTypes sig ts vs → drop p bs ≡ encode_from sig k ts vs
      → (roots : List ℕ) × (places_from sig bs k ts p ≡ Ok roots)
  places_complete p[] k [] p typed h =
      let none : length bs ≤ p = omega (arith, ap length h, length-drop p bs) in
      ([], ap (λ (b : Bool). cond b (Err (fault BytesAfter p)) (Ok [])) (le-ltb p (length bs) none))
  places_complete p[] k (t ∷ ts) p typed h = absurd typed
  places_complete (v p∷ vs) k [] p typed h = absurd typed
  places_complete (v p∷ vs) k (t ∷ ts) p typed h =
      let rest : List ℕ = encode_from sig (k + 1) ts vs in
      let s = start_complete k p (written sig t v ++ rest) h in
      let q : ℕ = p + 3 + length (written sig t v) in
      let value = value_complete v (length bs) p t (p + 3) rest typed.0 s.1 (omega arith) in
      let later = places_complete vs (k + 1) ts q typed.1 (past_part bs (p + 3) (written sig t v) rest s.1) in (
        (p + 3) ∷ later.0,
        ap (λ (r : Result ℕ Fault). and_then r (λ v. and_then (value_end (length bs) sig bs p t v) (λ q. preceded v (places_from sig bs (k + 1) ts q)))) s.0
            ∙ ap (λ (r : Result ℕ Fault). and_then r (λ q. preceded (p + 3) (places_from sig bs (k + 1) ts q))) value
            ∙ ap (preceded (p + 3)) later.1,
      )

pub exact : ReadingIsExact
exact p bytes = (
  λ r.
      let a = cond_ok (leb (length bytes) 16384) (places_from (sig_of p) bytes 0 p.unknowns 0) (fault TooLong 16384) r.roots r.reads in
      let m = places_sound (sig_of p) bytes 0 p.unknowns 0 r.roots a.1 in
      record { parts = m.0; writes = record { typed = m.1; is = m.2; short = leb-true (length bytes) 16384 a.0 } },
  λ m.
      let r = places_complete (sig_of p) bytes m.parts 0 p.unknowns 0 m.writes.typed m.writes.is in
      record {
        roots = r.0;
        reads = ap (λ (b : Bool). cond b (places_from (sig_of p) bytes 0 p.unknowns 0) (Err (fault TooLong 16384))) (le-leb (length bytes) 16384 m.writes.short) ∙ r.1;
      },
)
