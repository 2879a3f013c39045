-- Entries that stand for records, kind by kind: what a table then holds. Assumes nothing.
use Rattle.std.proofs.Common.{◌≡◌, ℕ, zero, suc, ◌+◌, ◌<◌, ◌≤◌, List, [], ◌∷◌, ◌++◌, map, length, get_or, take, drop, set, slice_index_or, sym, refl, ap, ◌∙◌, subst, append_assoc, arith}
use Rattle.std.proofs.lemmas.List.{length-append, length-drop, length-set, length-take, drop-drop, drop_at, get_or-take, take-take, take_more_set}
use Rattle.std.proofs.lemmas.Slice.{take-put_mid}
use Rattle.std.proofs.Math.Seq.{take-append-add}
use borrow.Rule.Slice.PartMut.{put_mid}
use Rattle.syntax.specs.declared.tables.Datatype.{Datatype}
use Rattle.syntax.specs.declared.tables.Callable.{Callable}
use Rattle.syntax.specs.declared.tables.Span.{Span}
use Rattle.syntax.specs.Tables.{cases_in, profile_in}
use Rattle.syntax.specs.Problems.{bool, concat, encode_type, encode_unknown}
use Rattle.records.specs.Raw.{RawFunction, write_function, write_goal}
use Rattle.records.specs.declared.reader.Reader.{Reader}
use Rattle.records.specs.Readers.{ahead_of}
use Rattle.tables.specs.Sections.{Stand, Entered}
use Rattle.tables.specs.Tabled.{places_of, mark_at, body_at, term_at, part_in, function_in, Inside}
use Rattle.tables.proofs.Entries.{function_there, function_inside, goal_there, goal_inside}

-- In these, the first n entries of a table hold the records xs, of which the first stands at p.
pub record TypesHeld (p : ℕ) (table : List Datatype) (n : ℕ) (xs : List (List (List ℕ))) : Type 0 where
  pub long : n ≡ 1 + length xs
  pub cases : map cases_in (take n table) ≡ bool ∷ xs
  pub marks : map (λ d. d.at) (take n table) ≡ 0 ∷ places_of mark_at encode_type p xs

pub record FunctionsHeld (bs : List ℕ) (p : ℕ) (table : List Callable) (n : ℕ) (xs : List RawFunction) : Type 0 where
  pub long : n ≡ length xs
  pub are : map (function_in bs) (take n table) ≡ xs
  pub marks : map (λ f. f.at) (take n table) ≡ places_of mark_at write_function p xs
  pub bodies : map (λ f. f.body.start) (take n table) ≡ places_of body_at write_function p xs
  pub inside : (k : ℕ) (d : Callable) → k < n → Inside bs (get_or table k d).body

pub record UnknownsHeld (table : List ℕ) (n : ℕ) (xs : List ℕ) : Type 0 where
  pub long : n ≡ length xs
  pub are : take n table ≡ xs

pub record GoalsHeld (bs : List ℕ) (p : ℕ) (table : List Span) (n : ℕ) (xs : List (List ℕ)) : Type 0 where
  pub long : n ≡ length xs
  pub are : map (part_in bs) (take n table) ≡ xs
  pub terms : map (λ g. g.start) (take n table) ≡ places_of term_at write_goal p xs
  pub inside : (k : ℕ) (d : Span) → k < n → Inside bs (slice_index_or table k d)

module _ {A T : Type 0} (E : ℕ → A → T → Type 0) (w : A → List ℕ) where
  -- what a function gives on the entries: what the records say; their places; and what holds of each entry
  stand_are : (f : T → A) → ((p : ℕ) (x : A) (t : T) → E p x t → f t ≡ x) → (p : ℕ) (xs : List A) (ts : List T) → Stand E w p xs ts → map f ts ≡ xs
  stand_are f e p [] [] h = refl
  stand_are f e p [] (t ∷ ts) h = absurd h
  stand_are f e p (x ∷ xs) [] h = absurd h
  stand_are f e p (x ∷ xs) (t ∷ ts) h =
      ap (λ k. k ∷ map f ts) (e p x t h.0) ∙ ap (λ k. x ∷ k) (stand_are f e (p + length (w x)) xs ts h.1)

  stand_places : (f : T → ℕ) (g : ℕ → A → ℕ) → ((p : ℕ) (x : A) (t : T) → E p x t → f t ≡ g p x) → (p : ℕ) (xs : List A) (ts : List T) → Stand E w p xs ts
      → map f ts ≡ places_of g w p xs
  stand_places f g e p [] [] h = refl
  stand_places f g e p [] (t ∷ ts) h = absurd h
  stand_places f g e p (x ∷ xs) [] h = absurd h
  stand_places f g e p (x ∷ xs) (t ∷ ts) h =
      ap (λ k. k ∷ map f ts) (e p x t h.0) ∙ ap (λ k. g p x ∷ k) (stand_places f g e (p + length (w x)) xs ts h.1)

  stand_each : (P : T → Type 0) → ((p : ℕ) (x : A) (t : T) → E p x t → P t) → (p : ℕ) (xs : List A) (ts : List T) → Stand E w p xs ts
      → (k : ℕ) (d : T) → k < length ts → P (get_or ts k d)
  stand_each P e p [] [] h k d l = absurd (omega (arith, l))
  stand_each P e p [] (t ∷ ts) h k d l = absurd h
  stand_each P e p (x ∷ xs) [] h k d l = absurd h
  stand_each P e p (x ∷ xs) (t ∷ ts) h zero d l = e p x t h.0
  stand_each P e p (x ∷ xs) (t ∷ ts) h (suc k) d l = stand_each P e (p + length (w x)) xs ts h.1 k d (omega (arith, l))

  -- the same entries, by another relation
  pub stand_by : (F : ℕ → A → T → Type 0) → ((p : ℕ) (x : A) (t : T) → E p x t → F p x t) → (p : ℕ) (xs : List A) (ts : List T) → Stand E w p xs ts → Stand F w p xs ts
  stand_by F e p [] [] h = tt
  stand_by F e p [] (t ∷ ts) h = absurd h
  stand_by F e p (x ∷ xs) [] h = absurd h
  stand_by F e p (x ∷ xs) (t ∷ ts) h = (e p x t h.0, stand_by F e (p + length (w x)) xs ts h.1)

  -- each record stands in the bytes, where the records are their front
  abbrev There : List ℕ → ℕ → A → T → Type 0
  There bs p x t = E p x t × (p ≤ length bs) × (rest : List ℕ) × (drop p bs ≡ w x ++ rest)

  stand_there : (bs : List ℕ) (p : ℕ) (xs : List A) (ts : List T) (rest : List ℕ) → Stand E w p xs ts → p ≤ length bs → drop p bs ≡ concat w xs ++ rest
      → Stand (There bs) w p xs ts
  stand_there bs p [] [] rest h low e = tt
  stand_there bs p [] (t ∷ ts) rest h low e = absurd h
  stand_there bs p (x ∷ xs) [] rest h low e = absurd h
  stand_there bs p (x ∷ xs) (t ∷ ts) rest h low e =
      let here : drop p bs ≡ w x ++ (concat w xs ++ rest) = e ∙ append_assoc (w x) (concat w xs) rest in
      let next : drop (p + length (w x)) bs ≡ concat w xs ++ rest
      = sym (drop-drop (length (w x)) p bs) ∙ ap (drop (length (w x))) here ∙ drop_at (w x) (concat w xs ++ rest) (length (w x)) refl in
      let long = ap length here ∙ length-append (w x) (concat w xs ++ rest) in
      ((h.0, low, concat w xs ++ rest, here), stand_there bs (p + length (w x)) xs ts rest h.1 (omega (arith, long, low, length-drop p bs)) next)

module _ {A T : Type 0} {E : ℕ → A → T → Type 0} {w : A → List ℕ} {p : ℕ} {table : List T} {n : ℕ} {xs : List A} where
  pub entered_by : (F : ℕ → A → T → Type 0) → ((p : ℕ) (x : A) (t : T) → E p x t → F p x t) → Entered E w p table n xs → Entered F w p table n xs
  entered_by F e h = record { long = h.long; fits = h.fits; stand = stand_by E w F e p xs (take n table) h.stand }

-- an entry of each kind, by what it says and where its record stands
abbrev pub TypeEntry : ℕ → List (List ℕ) → Datatype → Type 0
TypeEntry p cs t = (cases_in t ≡ cs) × (t.at ≡ p)

abbrev pub FunctionEntry : ℕ → RawFunction → Callable → Type 0
FunctionEntry p f t =
    (profile_in t ≡ f.profile) × (t.at ≡ p) × (t.body.start ≡ p + (6 + length f.profile.params)) × (t.body.len ≡ length f.body)

abbrev pub UnknownEntry : ℕ → ℕ → ℕ → Type 0
UnknownEntry p u t = t ≡ u

abbrev pub GoalEntry : ℕ → List ℕ → Span → Type 0
GoalEntry p g t = (t.start ≡ p + 4) × (t.len ≡ length g)

-- a table behind its first entry
behind_first : {T : Type 0} (k : ℕ) (xs ys : List T) (v : T) (n : ℕ) → 0 < length xs → n ≤ length ys
    → take (1 + n) (put_mid 1 k (set xs 0 v) ys) ≡ v ∷ take n ys
behind_first k xs ys v n some low =
    let table = set xs 0 v in
    let one : take 1 table ≡ v ∷ [] = take_more_set xs 0 v some in
    let long : 1 ≤ length table = omega (arith, length-set xs 0 v) in
    sym (take-take (1 + n) (1 + length ys) (put_mid 1 k table ys) (omega arith))
    ∙ ap (take (1 + n)) (take-put_mid 1 k table ys (1 + length ys) refl long ∙ ap (λ z. z ++ ys) one)
    ∙ take-append-add (v ∷ []) ys n

pub types_held : (k : ℕ) (first : List Datatype) (b : Datatype) {p : ℕ} {table : List Datatype} {n : ℕ} {xs : List (List (List ℕ))}
    → 0 < length first → cases_in b ≡ bool → b.at ≡ 0 → Entered TypeEntry encode_type p table n xs → TypesHeld p (put_mid 1 k (set first 0 b) table) (1 + n) xs
types_held k first b {p} {table} {n} {xs} some is none h =
    let front = behind_first k first table b n some h.fits in
    record {
      long = ap (λ m. 1 + m) h.long;
      cases = ap (map cases_in) front ∙ ap (λ c. c ∷ map cases_in (take n table)) is
          ∙ ap (λ cs. bool ∷ cs) (stand_are TypeEntry encode_type cases_in (λ q x t e. e.0) p xs (take n table) h.stand);
      marks = ap (map (λ d. d.at)) front ∙ ap (λ c. c ∷ map (λ d. d.at) (take n table)) none
          ∙ ap (λ cs. 0 ∷ cs) (stand_places TypeEntry encode_type (λ d. d.at) mark_at (λ q x t e. e.1) p xs (take n table) h.stand);
    }

pub functions_held : (r s : Reader) {table : List Callable} {n : ℕ} {xs : List RawFunction} → ahead_of r ≡ concat write_function xs ++ ahead_of s
    → Entered FunctionEntry write_function r.at table n xs → FunctionsHeld r.bytes.now r.at table n xs
functions_held r s {table} {n} {xs} front h =
    let bs = r.bytes.now in
    let E : ℕ → RawFunction → Callable → Type 0 = There FunctionEntry write_function bs in
    let all : Stand E write_function r.at xs (take n table) = stand_there FunctionEntry write_function bs r.at xs (take n table) (ahead_of s) h.stand r.within front in
    record {
      long = h.long;
      are = stand_are E write_function (function_in bs) (λ q x t e. function_there bs q x e.2 e.3 t e.0.2 e.0.3 e.0.0) r.at xs (take n table) all;
      marks = stand_places E write_function (λ f. f.at) mark_at (λ q x t e. e.0.1) r.at xs (take n table) all;
      bodies = stand_places E write_function (λ f. f.body.start) body_at (λ q x t e. e.0.2) r.at xs (take n table) all;
      inside = λ k d l. subst (λ f. Inside bs f.body) (get_or-take n table k d l)
          (stand_each E write_function (λ f. Inside bs f.body) (λ q x t e. function_inside bs q x e.2 e.3 t e.0.2 e.0.3 e.1) r.at xs (take n table) all
          k d (let fits = h.fits in omega (arith, l, fits, length-take n table)));
    }

pub unknowns_held : {p : ℕ} {table : List ℕ} {n : ℕ} {xs : List ℕ} → Entered UnknownEntry encode_unknown p table n xs → UnknownsHeld table n xs
unknowns_held {p} {table} {n} {xs} h =
    record { long = h.long; are = sym (stand_same p xs (take n table) h.stand) }
  where
    stand_same : (p : ℕ) (xs ts : List ℕ) → Stand UnknownEntry encode_unknown p xs ts → xs ≡ ts
    stand_same p [] [] h = refl
    stand_same p [] (t ∷ ts) h = absurd h
    stand_same p (x ∷ xs) [] h = absurd h
    stand_same p (x ∷ xs) (t ∷ ts) h = ap (λ k. k ∷ xs) (sym h.0) ∙ ap (λ k. t ∷ k) (stand_same (p + length (encode_unknown x)) xs ts h.1)

pub goals_held : (r s : Reader) {table : List Span} {n : ℕ} {xs : List (List ℕ)} → ahead_of r ≡ concat write_goal xs ++ ahead_of s
    → Entered GoalEntry write_goal r.at table n xs → GoalsHeld r.bytes.now r.at table n xs
goals_held r s {table} {n} {xs} front h =
    let bs = r.bytes.now in
    let E : ℕ → List ℕ → Span → Type 0 = There GoalEntry write_goal bs in
    let all : Stand E write_goal r.at xs (take n table) = stand_there GoalEntry write_goal bs r.at xs (take n table) (ahead_of s) h.stand r.within front in
    record {
      long = h.long;
      are = stand_are E write_goal (part_in bs) (λ q x t e. goal_there bs q x e.2 e.3 t e.0.0 e.0.1) r.at xs (take n table) all;
      terms = stand_places E write_goal (λ g. g.start) term_at (λ q x t e. e.0.0) r.at xs (take n table) all;
      inside = λ k d l. subst (Inside bs) (get_or-take n table k d l)
          (stand_each E write_goal (Inside bs) (λ q x t e. goal_inside bs q x e.2 e.3 t e.0.0 e.0.1 e.1) r.at xs (take n table) all
          k d (let fits = h.fits in omega (arith, l, fits, length-take n table)));
    }
