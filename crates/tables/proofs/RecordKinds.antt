-- Each kind of record: what is read is within its limits and writes the bytes, and what is written is read back. Assumes nothing.
use Rattle.std.proofs.Common.{◌≡◌, ℕ, zero, suc, ◌+◌, ◌*◌, ◌/◌, ◌%◌, ◌<◌, ◌≤◌, Bool, true, false, cond, ◌&&◌, leb, List, [], ◌∷◌, ◌++◌, length, drop, Ok, Err, Result, sym, refl, ap, ◌∙◌, subst, append_assoc, arith}
use Rattle.std.proofs.lemmas.List.{length-append, take_at, drop_at}
use Rattle.std.proofs.lemmas.Bool.{and_parts, and_from, leb-true, le-leb, cond-true}
use Rattle.syntax.specs.declared.faults.Fault.{Fault}
use Rattle.syntax.specs.declared.faults.Reason.TheVariants.{BadCount}
use Rattle.syntax.specs.Faults.{fault}
use Rattle.syntax.specs.Problems.{Each, concat, encode_list, encode_part, encode_type, encode_unknown}
use Rattle.records.specs.Raw.{RawFunction, write_function, write_goal, Few}
use Rattle.records.specs.Reading.{Read, read, and_then, preceded, byte_of, bytes_of, list_of, lists_of, type_of, part_of, function_of, starts}
use Rattle.tables.specs.Exact.{Bytes}
use Rattle.records.proofs.Nexts.{function_from, function_written}
use Rattle.records.proofs.Sound.{same_read, byte_sound, list_sound, part_from}

pub each_right : {A : Type 0} (P : A → Type 0) (xs ys : List A) → Each P (xs ++ ys) → Each P ys
each_right P [] ys h = h
each_right P (x ∷ xs) ys h = each_right P xs ys h.1

-- A kind of record: its reading, its mark, how it is written, and its limits.
pub record Kind {A : Type 0} (one : ℕ → List ℕ → ℕ → Result (Read A) Fault) (a b : ℕ) (w : A → List ℕ) (K : A → Type 0) : Type 0 where
  pub limits : {x : A} {rest : List ℕ} {q : ℕ} (m : ℕ) (bs : List ℕ) (p : ℕ) → one m bs p ≡ read x rest q → K x
  pub writes : {x : A} {rest : List ℕ} {q : ℕ} (m : ℕ) (bs : List ℕ) (p : ℕ) → Bytes bs → one m bs p ≡ read x rest q → a ∷ (b ∷ bs) ≡ w x ++ rest
  pub marked : (x : A) (rest : List ℕ) → starts a b (w x ++ rest) ≡ true
  pub reads : (x : A) → K x → (rest : List ℕ) (m p : ℕ) → (q : ℕ) × (one m (drop 2 (w x ++ rest)) p ≡ read x rest q)

-- the parts, written and read back
bytes_full : (m : ℕ) (x rest : List ℕ) (p : ℕ) → bytes_of m (length x) (x ++ rest) p ≡ read x rest (p + length x)
bytes_full m x rest p =
    let low : length x ≤ length (x ++ rest) = omega (arith, length-append x rest) in
    cond-true (leb (length x) (length (x ++ rest))) _ _ (le-leb (length x) (length (x ++ rest)) low)
    ∙ ap (λ k. read k (drop (length x) (x ++ rest)) (p + length x)) (take_at x rest (length x) refl)
    ∙ ap (λ k. read x k (p + length x)) (drop_at x rest (length x) refl)

list_full : (m : ℕ) (x rest : List ℕ) (p : ℕ) → Few x → list_of m (encode_list x ++ rest) p ≡ read x rest (p + 1 + length x)
list_full m x rest p h = cond-true (leb (length x) 6) _ _ (le-leb (length x) 6 h) ∙ bytes_full m x rest (p + 1)

part_full : (m : ℕ) (x rest : List ℕ) (p : ℕ) → part_of m (encode_part x ++ rest) p ≡ read x rest (p + 2 + length x)
part_full m x rest p =
    let n : 256 * (length x / 256) + length x % 256 ≡ length x = omega arith in
    ap (λ k. bytes_of m k (x ++ rest) (p + 2)) n ∙ bytes_full m x rest (p + 2)

lists_full : (m : ℕ) (xs : List (List ℕ)) (rest : List ℕ) (p : ℕ) → Each Few xs → (q : ℕ) × (lists_of m (length xs) (concat encode_list xs ++ rest) p ≡ read xs rest q)
lists_full m [] rest p h = (p, refl)
lists_full m (x ∷ xs) rest p h =
    let more = lists_full m xs rest (p + 1 + length x) h.1 in (
      more.0,
      ap (λ k. lists_of m (suc (length xs)) k p) (append_assoc (encode_list x) (concat encode_list xs) rest)
          ∙ ap (λ d. and_then d (λ r. preceded r.value (lists_of m (length xs) r.rest r.at))) (list_full m x (concat encode_list xs ++ rest) p h.0)
          ∙ ap (preceded x) more.1,
    )

-- n lists that were read
abbrev ListsSound : ℕ → ℕ → Type 0
ListsSound m n =
    (bs : List ℕ) (p : ℕ) (xs : List (List ℕ)) (rest : List ℕ) (q : ℕ) → lists_of m n bs p ≡ read xs rest q →
    (bs ≡ concat encode_list xs ++ rest) × (length xs ≡ n) × Each Few xs

pub lists_sound : (m n : ℕ) → ListsSound m n
lists_sound m zero bs p xs rest q e =
    let s = same_read e in (
      ap (λ r. concat encode_list r.value ++ r.rest) s,
      sym (ap (λ r. length r.value) s),
      subst (λ r. Each Few r.value) s tt,
    )
lists_sound m (suc n) bs p xs rest q e = by (lists_sound m n) (list_of m bs p) refl e
  where
    more : ListsSound m n → {x : List ℕ} {bs₁ : List ℕ} {p₁ : ℕ} → list_of m bs p ≡ read x bs₁ p₁ → (d : Result (Read (List (List ℕ))) Fault) → lists_of m n bs₁ p₁ ≡ d → preceded x d ≡ read xs rest q →
        (bs ≡ concat encode_list xs ++ rest) × (length xs ≡ suc n) × Each Few xs
    more fewer f (Err g) h e = cc
    more fewer {x} {bs₁} {p₁} f (Ok s) h e =
        let l = list_sound m bs p f in
        let r = fewer bs₁ p₁ s.value s.rest s.at h in
        let k = same_read e in (
          l.0 ∙ ap (λ z. encode_list x ++ z) r.0 ∙ sym (append_assoc (encode_list x) (concat encode_list s.value) s.rest) ∙ ap (λ z. concat encode_list z.value ++ z.rest) k,
          sym (ap (λ z. length z.value) k) ∙ ap suc r.1,
          subst (λ z. Each Few z.value) k (l.1, r.2),
        )

    by : ListsSound m n → (d : Result (Read (List ℕ)) Fault) → list_of m bs p ≡ d → and_then d (λ r. preceded r.value (lists_of m n r.rest r.at)) ≡ read xs rest q →
        (bs ≡ concat encode_list xs ++ rest) × (length xs ≡ suc n) × Each Few xs
    by fewer (Err g) h e = cc
    by fewer (Ok r) h e = more fewer h (lists_of m n r.rest r.at) refl e

abbrev pub FineType : List (List ℕ) → Type 0
FineType cs = (1 ≤ length cs) × (length cs ≤ 16) × Each Few cs

type_sound : {cs : List (List ℕ)} {rest : List ℕ} {q : ℕ} (m : ℕ) (bs : List ℕ) (p : ℕ) → type_of m bs p ≡ read cs rest q → (bs ≡ length cs ∷ (concat encode_list cs ++ rest)) × FineType cs
type_sound m [] p e = cc
type_sound {cs} {rest} {q} m (n ∷ bs) p e = by (leb 1 n && leb n 16) refl e
  where
    by : (t : Bool) → (leb 1 n && leb n 16) ≡ t → cond t (lists_of m n bs (p + 1)) (Err (fault BadCount p)) ≡ read cs rest q → (n ∷ bs ≡ length cs ∷ (concat encode_list cs ++ rest)) × FineType cs
    by false l e = cc
    by true l e =
        let s = lists_sound m n bs (p + 1) cs rest q e in
        let both = and_parts (leb 1 n) (leb n 16) l in
        let low = leb-true 1 n both.0 in
        let high = leb-true n 16 both.1 in
        let long = s.1 in
        (ap (λ k. n ∷ k) s.0 ∙ ap (λ k. k ∷ (concat encode_list cs ++ rest)) (sym long), (omega arith, omega arith, s.2))

pub type_kind : Kind type_of 0x44 0x54 encode_type FineType
type_kind =
    record {
      limits = λ m bs p e. (type_sound m bs p e).1;
      writes = λ m bs p h e. ap (λ k. 0x44 ∷ (0x54 ∷ k)) (type_sound m bs p e).0;
      marked = λ x rest. refl;
      reads = λ x h rest m p. type_reads x h rest m p;
    }
  where
    type_reads : (x : List (List ℕ)) → FineType x → (rest : List ℕ) (m p : ℕ) → (q : ℕ) × (type_of m (drop 2 (encode_type x ++ rest)) p ≡ read x rest q)
    type_reads x h rest m p =
        let more = lists_full m x rest (p + 1) h.2 in (
          more.0,
          cond-true (leb 1 (length x) && leb (length x) 16) _ _ (and_from (leb 1 (length x)) (leb (length x) 16) (le-leb 1 (length x) h.0) (le-leb (length x) 16 h.1)) ∙ more.1,
        )

pub unknown_kind : Kind byte_of 0x55 0x4B encode_unknown (λ t. Unit {0})
unknown_kind =
    record {
      limits = λ m bs p e. tt;
      writes = λ m bs p h e. ap (λ k. 0x55 ∷ (0x4B ∷ k)) (byte_sound m bs p e).0;
      marked = λ x rest. refl;
      reads = λ x h rest m p. (p + 1, refl);
    }

-- a part that was read, of bytes
pub part_sound : {x rest : List ℕ} {q : ℕ} (m : ℕ) (bs : List ℕ) (p : ℕ) → Bytes bs → part_of m bs p ≡ read x rest q → bs ≡ encode_part x ++ rest
part_sound m [] p h e = cc
part_sound m (b ∷ []) p h e = cc
part_sound m (b ∷ (l ∷ bs)) p h e =
    let again : p + 1 + 1 ≡ p + 2 = omega arith in
    (part_from {bs₁ = l ∷ bs} {bs₂ = bs} m (b ∷ (l ∷ bs)) p refl refl h.1.0 (ap (λ k. bytes_of m (256 * b + l) bs k) again ∙ e)).1

pub goal_kind : Kind part_of 0x47 0x4C write_goal (λ g. Unit {0})
goal_kind =
    record {
      limits = λ m bs p e. tt;
      writes = λ m bs p h e. ap (λ k. 0x47 ∷ (0x4C ∷ k)) (part_sound m bs p h e);
      marked = λ x rest. refl;
      reads = λ x h rest m p. (p + 2 + length x, part_full m x rest p);
    }

-- the parts of a function that was read
record FunctionParts (m : ℕ) (bs : List ℕ) (p : ℕ) (f : RawFunction) (rest : List ℕ) (q : ℕ) : Type 0 where
  bs₁ : List ℕ
  p₁ : ℕ
  bs₂ : List ℕ
  p₂ : ℕ
  list : list_of m bs p ≡ read f.profile.params bs₁ p₁
  byte : byte_of m bs₁ p₁ ≡ read f.profile.result bs₂ p₂
  part : part_of m bs₂ p₂ ≡ read f.body rest q

function_parts : {f : RawFunction} {rest : List ℕ} {q : ℕ} (m : ℕ) (bs : List ℕ) (p : ℕ) → function_of m bs p ≡ read f rest q → FunctionParts m bs p f rest q
function_parts {f} {rest} {q} m bs p e = first (list_of m bs p) refl e
  where
    third : (ps : Read (List ℕ)) → list_of m bs p ≡ Ok ps → (t : Read ℕ) → byte_of m ps.rest ps.at ≡ Ok t → (d : Result (Read (List ℕ)) Fault) → part_of m t.rest t.at ≡ d →
        and_then d (λ b. read (record { profile = record { params = ps.value; result = t.value }; body = b.value }) b.rest b.at) ≡ read f rest q → FunctionParts m bs p f rest q
    third ps h t k (Err g) l e = cc
    third ps h t k (Ok b) l e =
        let s = same_read e in
        record {
          bs₁ = ps.rest;
          p₁ = ps.at;
          bs₂ = t.rest;
          p₂ = t.at;
          list = h ∙ ap (λ z. read z.value.profile.params ps.rest ps.at) s;
          byte = k ∙ ap (λ z. read z.value.profile.result t.rest t.at) s;
          part = l ∙ ap (λ z. read z.value.body z.rest z.at) s;
        }

    second : (ps : Read (List ℕ)) → list_of m bs p ≡ Ok ps → (d : Result (Read ℕ) Fault) → byte_of m ps.rest ps.at ≡ d →
        and_then d (λ t. and_then (part_of m t.rest t.at) (λ b. read (record { profile = record { params = ps.value; result = t.value }; body = b.value }) b.rest b.at)) ≡ read f rest q →
        FunctionParts m bs p f rest q
    second ps h (Err g) k e = cc
    second ps h (Ok t) k e = third ps h t k (part_of m t.rest t.at) refl e

    first : (d : Result (Read (List ℕ)) Fault) → list_of m bs p ≡ d →
        and_then d (λ ps. and_then (byte_of m ps.rest ps.at) (λ t. and_then (part_of m t.rest t.at) (λ b. read (record { profile = record { params = ps.value; result = t.value }; body = b.value }) b.rest b.at))) ≡ read f rest q →
        FunctionParts m bs p f rest q
    first (Err g) h e = cc
    first (Ok ps) h e = second ps h (byte_of m ps.rest ps.at) refl e

abbrev pub FineFunction : RawFunction → Type 0
FineFunction f = Few f.profile.params

function_writes : {f : RawFunction} {rest : List ℕ} {q : ℕ} (m : ℕ) (bs : List ℕ) (p : ℕ) → Bytes bs → function_of m bs p ≡ read f rest q → 0x46 ∷ (0x4E ∷ bs) ≡ write_function f ++ rest
function_writes {f} {rest} m bs p h e =
    let s = function_parts m bs p e in
    let ps = encode_list f.profile.params in
    let l = (list_sound m bs p s.list).0 in
    let b = (byte_sound m s.bs₁ s.p₁ s.byte).0 in
    let front : bs ≡ ps ++ (f.profile.result ∷ s.bs₂) = l ∙ ap (λ k. ps ++ k) b in
    let small = each_right (λ b. b < 256) ps (f.profile.result ∷ s.bs₂) (subst Bytes front h) in
    let t = part_sound m s.bs₂ s.p₂ small.1 s.part in
    function_written f.profile.params f.profile.result f.body rest refl front t

function_reads : (f : RawFunction) → FineFunction f → (rest : List ℕ) (m p : ℕ) → (q : ℕ) × (function_of m (drop 2 (write_function f ++ rest)) p ≡ read f rest q)
function_reads f h rest m p =
    let ps = f.profile.params in
    let r = f.profile.result in
    let p₁ = p + 1 + length ps in
    let p₂ = p₁ + 1 + 2 + length f.body in (
      p₂,
      ap (λ k. function_of m k p) (append_assoc (encode_list ps) (r ∷ encode_part f.body) rest)
          ∙ function_from m (encode_list ps ++ (r ∷ (encode_part f.body ++ rest))) p (list_full m ps (r ∷ (encode_part f.body ++ rest)) p h) refl (part_full m f.body rest (p₁ + 1)),
    )

pub function_kind : Kind function_of 0x46 0x4E write_function FineFunction
function_kind =
    record {
      limits = λ m bs p e. (list_sound m bs p (function_parts m bs p e).list).1;
      writes = function_writes;
      marked = λ x rest. refl;
      reads = function_reads;
    }
