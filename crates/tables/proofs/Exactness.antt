-- Reading all records is exact: what was read writes the bytes, and what writes them is read. Assumes nothing.
use Rattle.std.proofs.Common.{◌≡◌, ℕ, zero, suc, ◌+◌, ◌<◌, ◌≤◌, Bool, true, false, cond, leb, List, [], ◌∷◌, ◌++◌, length, drop, Ok, Err, Result, sym, refl, ap, ◌∙◌, subst, append_assoc, arith}
use Rattle.std.proofs.lemmas.Bool.{leb-true, le-leb, cond-true, cond-false}
use Rattle.syntax.specs.declared.faults.Fault.{Fault}
use Rattle.syntax.specs.declared.faults.Reason.TheVariants.{BadCount, NoMark, BytesAfter, TooLong}
use Rattle.syntax.specs.Faults.{fault}
use Rattle.syntax.specs.Problems.{Each, concat, encode_type, encode_unknown, encode_end}
use Rattle.records.specs.Raw.{Raw, RawFunction, write_function, write_goal, write, Within}
use Rattle.records.specs.Reading.{Read, read, and_then, preceded, type_of, function_of, byte_of, part_of, starts, many, end_of, all_of, records}
use Rattle.tables.specs.Exact.{Bytes, ReadingExact}
use Rattle.records.proofs.Sound.{same_read}
use Rattle.records.proofs.Nexts.{starts_sound}
use Rattle.records.proofs.Results.{was_ok}
use Rattle.tables.proofs.RecordKinds.{Kind, each_right, type_kind, function_kind, unknown_kind, goal_kind, FineType, FineFunction}

-- the records of a kind, as they were read
pub record SectionSound {A : Type 0} (w : A → List ℕ) (K : A → Type 0) (n : ℕ) (bs : List ℕ) (xs : List A) (rest : List ℕ) : Type 0 where
  pub few : length xs ≤ n
  pub each : Each K xs
  pub writes : Bytes bs → bs ≡ concat w xs ++ rest

module _ {A : Type 0} {one : ℕ → List ℕ → ℕ → Result (Read A) Fault} {a b : ℕ} {w : A → List ℕ} {K : A → Type 0} (kind : Kind one a b w K) where
  none_read : {n : ℕ} {bs : List ℕ} {p : ℕ} {xs : List A} {rest : List ℕ} {q : ℕ} → ◌≡◌ {A = Result (Read (List A)) Fault} (read [] bs p) (read xs rest q) → SectionSound w K n bs xs rest
  none_read {n} {bs} {p} {xs} {rest} {q} e =
      let s = same_read e in
      let none = ap (λ r. length r.value) s in
      record {
        few = omega arith;
        each = subst (λ r. Each K r.value) s tt;
        writes = λ h. ap (λ r. concat w r.value ++ r.rest) s;
      }

  abbrev SoundUpTo : ℕ → Type 0
  SoundUpTo n = (bs : List ℕ) (p : ℕ) (xs : List A) (rest : List ℕ) (q : ℕ) → many one a b n bs p ≡ read xs rest q → SectionSound w K n bs xs rest

  one_read : {n : ℕ} {bs : List ℕ} {p : ℕ} {x : A} {bs₁ : List ℕ} {p₁ : ℕ} {ys : List A} {rest : List ℕ} → starts a b bs ≡ true → one p (drop 2 bs) (p + 2) ≡ read x bs₁ p₁ →
      SectionSound w K n bs₁ ys rest → SectionSound w K (suc n) bs (x ∷ ys) rest
  one_read {n} {bs} {p} {x} {bs₁} {p₁} {ys} {rest} t e s =
      let few = s.few in
      let mark = starts_sound a b bs t in
      record {
        few = omega arith;
        each = (kind.limits p (drop 2 bs) (p + 2) e, s.each);
        writes = λ h.
            let inside = each_right (λ c. c < 256) (a ∷ (b ∷ [])) (drop 2 bs) (subst Bytes mark h) in
            let first : bs ≡ w x ++ bs₁ = mark ∙ kind.writes p (drop 2 bs) (p + 2) inside e in
            let more = s.writes (each_right (λ c. c < 256) (w x) bs₁ (subst Bytes first h)) in
            first ∙ ap (λ k. w x ++ k) more ∙ sym (append_assoc (w x) (concat w ys) rest);
      }

  pub section_sound : (n : ℕ) → SoundUpTo n
  section_sound zero bs p xs rest q e = by (starts a b bs) e
    where
      by : (t : Bool) → cond t (Err (fault BadCount p)) (read [] bs p) ≡ read xs rest q → SectionSound w K zero bs xs rest
      by true e = cc
      by false e = none_read e
  section_sound (suc n) bs p xs rest q e = by (section_sound n) (starts a b bs) refl (one p (drop 2 bs) (p + 2)) refl e
    where
      more : SoundUpTo n → starts a b bs ≡ true → (r : Read A) → one p (drop 2 bs) (p + 2) ≡ Ok r → (d : Result (Read (List A)) Fault) → many one a b n r.rest r.at ≡ d →
          preceded r.value d ≡ read xs rest q → SectionSound w K (suc n) bs xs rest
      more fewer t r h (Err g) k e = cc
      more fewer t r h (Ok s) k e =
          let whole = one_read t h (fewer r.rest r.at s.value s.rest s.at k) in
          subst (λ z. SectionSound w K (suc n) bs z.value z.rest) (same_read e) whole

      by : SoundUpTo n → (t : Bool) → starts a b bs ≡ t → (d : Result (Read A) Fault) → one p (drop 2 bs) (p + 2) ≡ d →
          cond t (and_then d (λ r. preceded r.value (many one a b n r.rest r.at))) (read [] bs p) ≡ read xs rest q → SectionSound w K (suc n) bs xs rest
      by fewer false t d h e = none_read e
      by fewer true t (Err g) h e = cc
      by fewer true t (Ok r) h e = more fewer t r h (many one a b n r.rest r.at) refl e

  -- records that were written are read back, as far as another mark
  pub section_full : (n : ℕ) (xs : List A) → length xs ≤ n → Each K xs → (rest : List ℕ) → starts a b rest ≡ false → (p : ℕ) → (q : ℕ) × (many one a b n (concat w xs ++ rest) p ≡ read xs rest q)
  section_full zero [] h k rest other p = (p, cond-false (starts a b rest) _ _ other)
  section_full (suc n) [] h k rest other p = (p, cond-false (starts a b rest) _ _ other)
  section_full zero (x ∷ xs) h k rest other p = absurd (omega arith)
  section_full (suc n) (x ∷ xs) h k rest other p =
      let all = concat w xs ++ rest in
      let less : length xs ≤ n = omega arith in
      let first = kind.reads x k.0 all p (p + 2) in
      let more = section_full n xs less k.1 rest other first.0 in (
        more.0,
        ap (λ z. many one a b (suc n) z p) (append_assoc (w x) (concat w xs) rest)
            ∙ cond-true (starts a b (w x ++ all)) _ _ (kind.marked x all)
            ∙ ap (λ d. and_then d (λ r. preceded r.value (many one a b n r.rest r.at))) first.1
            ∙ ap (preceded x) more.1,
      )

-- where other records stand, this mark does not
other_mark : {A : Type 0} (a b : ℕ) (w : A → List ℕ) → ((x : A) (rest : List ℕ) → starts a b (w x ++ rest) ≡ false) → (xs : List A) (rest : List ℕ) → starts a b rest ≡ false → starts a b (concat w xs ++ rest) ≡ false
other_mark a b w h [] rest e = e
other_mark a b w h (x ∷ xs) rest e = ap (starts a b) (append_assoc (w x) (concat w xs) rest) ∙ h x (concat w xs ++ rest)

-- what is left to read after each section
abbrev pub after_goals : List (List (List ℕ)) → List RawFunction → List ℕ → Read (List (List ℕ)) → Result Raw Fault
after_goals ts fs us gs = end_of (record { types = ts; functions = fs; unknowns = us; goals = gs.value }) gs.rest gs.at

abbrev pub after_unknowns : List (List (List ℕ)) → List RawFunction → Read (List ℕ) → Result Raw Fault
after_unknowns ts fs us = and_then (many part_of 0x47 0x4C 32 us.rest us.at) (after_goals ts fs us.value)

abbrev pub after_functions : List (List (List ℕ)) → Read (List RawFunction) → Result Raw Fault
after_functions ts fs = and_then (many byte_of 0x55 0x4B 16 fs.rest fs.at) (after_unknowns ts fs.value)

abbrev pub after_types : Read (List (List (List ℕ))) → Result Raw Fault
after_types ts = and_then (many function_of 0x46 0x4E 64 ts.rest ts.at) (after_functions ts.value)

pub short_enough : (bs : List ℕ) → length bs ≤ 16384 → records bs ≡ all_of bs
short_enough bs h = cond-true (leb (length bs) 16384) (all_of bs) (Err (fault TooLong 16384)) (le-leb (length bs) 16384 h)

pub end_sound : {A : Type 0} (x y : A) (xs : List ℕ) (p : ℕ) → end_of x xs p ≡ Ok y → (x ≡ y) × (xs ≡ encode_end)
end_sound {A} x y xs p e = by (starts 0x45 0x4E xs) refl (leb (length xs) 2) refl e
  where
    nothing_after : (ys : List ℕ) → length ys ≤ 2 → ys ≡ 0x45 ∷ (0x4E ∷ drop 2 ys) → ys ≡ encode_end
    nothing_after [] l h = let z = ap length h in absurd (omega arith)
    nothing_after (a ∷ []) l h = let z = ap length h in absurd (omega arith)
    nothing_after (a ∷ (b ∷ [])) l h = h
    nothing_after (a ∷ (b ∷ (c ∷ ys))) l h = absurd (omega arith)

    by : (t : Bool) → starts 0x45 0x4E xs ≡ t → (u : Bool) → leb (length xs) 2 ≡ u →
        ◌≡◌ {A = Result A Fault} (cond t (cond u (Ok x) (Err (fault BytesAfter (p + 2)))) (Err (fault NoMark p))) (Ok y) → (x ≡ y) × (xs ≡ encode_end)
    by false h u k e = cc
    by true h false k e = cc
    by true h true k e = (cc, nothing_after xs (leb-true (length xs) 2 k) (starts_sound 0x45 0x4E xs h))

-- all sections of records that were read
record SectionsSound (bs : List ℕ) (r : Raw) : Type 0 where
  bs₁ : List ℕ
  bs₂ : List ℕ
  bs₃ : List ℕ
  bs₄ : List ℕ
  types : SectionSound encode_type FineType 31 bs r.types bs₁
  functions : SectionSound write_function FineFunction 64 bs₁ r.functions bs₂
  unknowns : SectionSound encode_unknown (λ t. Unit {0}) 16 bs₂ r.unknowns bs₃
  goals : SectionSound write_goal (λ g. Unit {0}) 32 bs₃ r.goals bs₄
  end : bs₄ ≡ encode_end
  short : length bs ≤ 16384

sections_sound : (bs : List ℕ) (r : Raw) → records bs ≡ Ok r → SectionsSound bs r
sections_sound bs r e = by (leb (length bs) 16384) refl e
  where
    by : (t : Bool) → leb (length bs) 16384 ≡ t → cond t (all_of bs) (Err (fault TooLong 16384)) ≡ Ok r → SectionsSound bs r
    by false h e = cc
    by true h e =
        let s = was_ok (many type_of 0x44 0x54 31 bs 0) after_types e in
        let ts = s.0 in
        let t = was_ok (many function_of 0x46 0x4E 64 ts.rest ts.at) (after_functions ts.value) s.2 in
        let fs = t.0 in
        let u = was_ok (many byte_of 0x55 0x4B 16 fs.rest fs.at) (after_unknowns ts.value fs.value) t.2 in
        let us = u.0 in
        let v = was_ok (many part_of 0x47 0x4C 32 us.rest us.at) (after_goals ts.value fs.value us.value) u.2 in
        let gs = v.0 in
        let z = end_sound (record { types = ts.value; functions = fs.value; unknowns = us.value; goals = gs.value }) r gs.rest gs.at v.2 in
        subst (SectionsSound bs) z.0
        (record {
          bs₁ = ts.rest;
          bs₂ = fs.rest;
          bs₃ = us.rest;
          bs₄ = gs.rest;
          types = section_sound type_kind 31 bs 0 ts.value ts.rest ts.at s.1;
          functions = section_sound function_kind 64 ts.rest ts.at fs.value fs.rest fs.at t.1;
          unknowns = section_sound unknown_kind 16 fs.rest fs.at us.value us.rest us.at u.1;
          goals = section_sound goal_kind 32 us.rest us.at gs.value gs.rest gs.at v.1;
          end = z.1;
          short = leb-true (length bs) 16384 h;
        })

-- what was read and writes the bytes is within the limits
pub within_limits : (bs : List ℕ) (r : Raw) → records bs ≡ Ok r → write r ≡ bs → Within r
within_limits bs r e w =
    let s = sections_sound bs r e in
    let short = s.short in
    let long = ap length w in
    record {
      few_types = s.types.few;
      few_functions = s.functions.few;
      few_unknowns = s.unknowns.few;
      few_goals = s.goals.few;
      of_types = s.types.each;
      of_functions = s.functions.each;
      short = omega arith;
    }

writes_back : (bs : List ℕ) (r : Raw) → Bytes bs → records bs ≡ Ok r → write r ≡ bs
writes_back bs r h e =
    let s = sections_sound bs r e in
    let ts = concat encode_type r.types in
    let fs = concat write_function r.functions in
    let us = concat encode_unknown r.unknowns in
    let gs = concat write_goal r.goals in
    let one = s.types.writes h in
    let h₁ = each_right (λ b. b < 256) ts s.bs₁ (subst Bytes one h) in
    let two = s.functions.writes h₁ in
    let h₂ = each_right (λ b. b < 256) fs s.bs₂ (subst Bytes two h₁) in
    let three = s.unknowns.writes h₂ in
    let h₃ = each_right (λ b. b < 256) us s.bs₃ (subst Bytes three h₂) in
    let four = s.goals.writes h₃ in
    sym (one ∙ ap (λ k. ts ++ k) (two ∙ ap (λ k. fs ++ k) (three ∙ ap (λ k. us ++ k) (four ∙ ap (λ k. gs ++ k) s.end))))

pub reads_back : (r : Raw) → Within r → records (write r) ≡ Ok r
reads_back r h =
    let ts = r.types in
    let fs = r.functions in
    let us = r.unknowns in
    let gs = r.goals in
    let r₃ = concat write_goal gs ++ encode_end in
    let r₂ = concat encode_unknown us ++ r₃ in
    let r₁ = concat write_function fs ++ r₂ in
    let no-goal : (a b : ℕ) → ((x : List ℕ) (rest : List ℕ) → starts a b (write_goal x ++ rest) ≡ false) → starts a b encode_end ≡ false → starts a b r₃ ≡ false
    = λ a b f e. other_mark a b write_goal f gs encode_end e in
    let one = section_full type_kind 31 ts h.few_types h.of_types r₁
    (other_mark 0x44 0x54 write_function (λ x k. refl) fs r₂ (other_mark 0x44 0x54 encode_unknown (λ x k. refl) us r₃ (no-goal 0x44 0x54 (λ x k. refl) refl))) 0 in
    let two = section_full function_kind 64 fs h.few_functions h.of_functions r₂
    (other_mark 0x46 0x4E encode_unknown (λ x k. refl) us r₃ (no-goal 0x46 0x4E (λ x k. refl) refl)) one.0 in
    let three = section_full unknown_kind 16 us h.few_unknowns (each_unit us) r₃ (no-goal 0x55 0x4B (λ x k. refl) refl) two.0 in
    let four = section_full goal_kind 32 gs h.few_goals (each_unit gs) encode_end refl three.0 in
    short_enough (write r) h.short
    ∙ ap (λ d. and_then d after_types) one.1
    ∙ ap (λ d. and_then d (after_functions ts)) two.1
    ∙ ap (λ d. and_then d (after_unknowns ts fs)) three.1
    ∙ ap (λ d. and_then d (after_goals ts fs us)) four.1
  where
    each_unit : {A : Type 0} (xs : List A) → Each (λ x. Unit {0}) xs
    each_unit [] = tt
    each_unit (x ∷ xs) = (tt, each_unit xs)

pub reading_exact : ReadingExact
reading_exact =
    record {
      exact = λ bs r h. record {
        sound = λ e. let w = writes_back bs r h e in (w, within_limits bs r e w);
        complete = λ e w. ap records (sym e) ∙ reads_back r w;
      };
      unique = λ r s h k e. same (sym (reads_back r h) ∙ ap records e ∙ reads_back s k);
    }
  where
    same : {r s : Raw} → ◌≡◌ {A = Result Raw Fault} (Ok r) (Ok s) → r ≡ s
    same e = cc
