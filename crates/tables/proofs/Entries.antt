-- One entry more in a table. Assumes nothing.
use Rattle.std.proofs.Common.{◌≡◌, ℕ, suc, ◌+◌, ◌-◌, ◌/◌, ◌%◌, ◌<◌, ◌≤◌, List, [], ◌∷◌, ◌++◌, map, length, get_or, take, drop, set, sym, refl, ap, ◌∙◌, subst, append_assoc, add-zero, arith}
use Rattle.std.proofs.lemmas.List.{length-append, length-set, length-drop, length_push, drop-drop, take_more_set, take_at, drop_at, map_push}
use Rattle.syntax.specs.declared.tables.Callable.{Callable}
use Rattle.syntax.specs.declared.tables.Span.{Span}
use Rattle.syntax.specs.declared.tables.TypeList.{TypeList}
use Rattle.syntax.specs.Tables.{listed, profile_in}
use Rattle.syntax.specs.Problems.{concat, encode_list}
use Rattle.records.specs.Raw.{RawFunction, write_function, write_goal}
use Rattle.records.specs.Next.{lists_in, Lists}
use Rattle.tables.specs.Tabled.{part_in, function_in, Inside}
use Rattle.records.proofs.Nexts.{function_long}
use Rattle.tables.specs.Sections.{Stand, Entered}

module _ {T : Type 0} (table : List T) (n : ℕ) (t : T) (low : n < length table) where
  -- what a function gives on the entries, one more of them
  pub map_entry : {B : Type 0} (f : T → B) (ys : List B) (y : B) → map f (take n table) ≡ ys → f t ≡ y → map f (take (n + 1) (set table n t)) ≡ ys ++ y ∷ []
  map_entry f ys y e h = ap (map f) (take_more_set table n t low) ∙ map_push f (take n table) t ∙ ap (λ k. k ++ f t ∷ []) e ∙ ap (λ k. ys ++ k ∷ []) h

-- one entry more that stands for a record
pub stand_push : {A T : Type 0} (E : ℕ → A → T → Type 0) (w : A → List ℕ) (p : ℕ) (xs : List A) (ts : List T) (x : A) (t : T) →
    Stand E w p xs ts → E (p + length (concat w xs)) x t → Stand E w p (xs ++ x ∷ []) (ts ++ t ∷ [])
stand_push E w p [] [] x t h e = (subst (λ k. E k x t) (add-zero p) e, tt)
stand_push E w p [] (u ∷ ts) x t h e = absurd h
stand_push E w p (y ∷ xs) [] x t h e = absurd h
stand_push E w p (y ∷ xs) (u ∷ ts) x t h e =
    let sum : p + length (concat w (y ∷ xs)) ≡ p + length (w y) + length (concat w xs) = omega (arith, length-append (w y) (concat w xs)) in
    (h.0, stand_push E w (p + length (w y)) xs ts x t h.1 (subst (λ k. E k x t) sum e))

pub entered_push : {A T : Type 0} {E : ℕ → A → T → Type 0} {w : A → List ℕ} {p : ℕ} {table : List T} {n : ℕ} {xs : List A} (x : A) (t : T) →
    Entered E w p table n xs → n < length table → E (p + length (concat w xs)) x t → Entered E w p (set table n t) (n + 1) (xs ++ x ∷ [])
entered_push {E = E} {w} {p} {table} {n} {xs} x t h low e =
    record {
      long = ap (λ k. k + 1) h.long ∙ sym (length_push xs x);
      fits = omega (arith, length-set table n t);
      stand = subst (Stand E w p (xs ++ x ∷ [])) (sym (take_more_set table n t low)) (stand_push E w p xs (take n table) x t h.stand e);
    }

-- a part of the bytes behind some others
pub part_there : (bs : List ℕ) (at start : ℕ) (head part rest : List ℕ) → drop at bs ≡ head ++ (part ++ rest) → start ≡ at + length head → take (length part) (drop start bs) ≡ part
part_there bs at start head part rest e s =
    ap (λ k. take (length part) (drop k bs)) s
    ∙ ap (take (length part)) (sym (drop-drop (length head) at bs) ∙ ap (drop (length head)) e ∙ drop_at head (part ++ rest) (length head) refl)
    ∙ take_at part rest (length part) refl

-- what stands before a function's body
abbrev pub before_body : RawFunction → List ℕ
before_body f = 0x46 ∷ (0x4E ∷ (encode_list f.profile.params ++ (f.profile.result ∷ ((length f.body / 256) ∷ ((length f.body % 256) ∷ [])))))

pub body_split : (f : RawFunction) (rest : List ℕ) → write_function f ++ rest ≡ before_body f ++ (f.body ++ rest)
body_split f rest =
    let ps = encode_list f.profile.params in
    let r = f.profile.result in
    let h = length f.body / 256 in
    let l = length f.body % 256 in
    ap (λ k. 0x46 ∷ (0x4E ∷ k))
    (append_assoc ps (r ∷ (h ∷ (l ∷ f.body))) rest ∙ sym (append_assoc ps (r ∷ (h ∷ (l ∷ []))) (f.body ++ rest)))

pub before_body_long : (f : RawFunction) → length (before_body f) ≡ 6 + length f.profile.params
before_body_long f = omega (arith, length-append (encode_list f.profile.params) (f.profile.result ∷ ((length f.body / 256) ∷ ((length f.body % 256) ∷ []))))

-- the first list in bytes that hold lists
pub record FirstList (rest : List ℕ) (k : ℕ) : Type 0 where
  pub low : 1 ≤ length rest
  pub few : get_or rest 0 0 ≤ 6
  pub fits : get_or rest 0 0 ≤ length (drop 1 rest)
  pub others : Lists k (drop (get_or rest 0 0) (drop 1 rest))
  pub are : lists_in (suc k) rest ≡ take (get_or rest 0 0) (drop 1 rest) ∷ lists_in k (drop (get_or rest 0 0) (drop 1 rest))

first_list : (rest : List ℕ) (k : ℕ) → Lists (suc k) rest → FirstList rest k
first_list [] k h = absurd h
first_list (b ∷ bs) k h = record { low = omega arith; few = h.0; fits = h.1; others = h.2; are = refl }

-- the i-th of n lists
pub list_at : (rest : List ℕ) (n i : ℕ) → i < n → Lists (n - i) rest → FirstList rest (n - (i + 1))
list_at rest n i less h =
    let one_more : n - i ≡ suc (n - (i + 1)) = omega arith in
    first_list rest (n - (i + 1)) (subst (λ k. Lists k rest) one_more h)

-- one constructor more in a type's table
pub constructor_push : (rest : List ℕ) (n i : ℕ) (table : List TypeList) (t : TypeList) (all : List (List ℕ)) → i < n → i < length table →
    Lists (n - i) rest → listed t ≡ take (get_or rest 0 0) (drop 1 rest) → map listed (take i table) ++ lists_in (n - i) rest ≡ all →
    map listed (take (i + 1) (set table i t)) ++ lists_in (n - (i + 1)) (drop (get_or rest 0 0) (drop 1 rest)) ≡ all
constructor_push rest n i table t all less low h e f =
    let one_more : n - i ≡ suc (n - (i + 1)) = omega arith in
    let first = list_at rest n i less h in
    let others = lists_in (n - (i + 1)) (drop (get_or rest 0 0) (drop 1 rest)) in
    let x = take (get_or rest 0 0) (drop 1 rest) in
    ap (λ k. k ++ others) (map_entry table i t low listed (map listed (take i table)) x refl e)
    ∙ append_assoc (map listed (take i table)) (x ∷ []) others
    ∙ ap (λ k. map listed (take i table) ++ k) (sym first.are ∙ ap (λ k. lists_in k rest) (sym one_more))
    ∙ f

-- a function's entry stands for what was read
module _ (bs : List ℕ) (at : ℕ) (f : RawFunction) (rest : List ℕ) (e : drop at bs ≡ write_function f ++ rest) (t : Callable)
    (start : t.body.start ≡ at + (6 + length f.profile.params)) (long : t.body.len ≡ length f.body) where
  pub function_there : profile_in t ≡ f.profile → function_in bs t ≡ f
  function_there p =
      let place = start ∙ ap (λ k. at + k) (sym (before_body_long f)) in
      let body : part_in bs t.body ≡ f.body
      = ap (λ k. take k (drop t.body.start bs)) long ∙ part_there bs at t.body.start (before_body f) f.body rest (e ∙ body_split f rest) place in
      ap (λ k. record { profile = k; body = part_in bs t.body }) p ∙ ap (λ k. record { profile = f.profile; body = k }) body

  pub function_inside : at ≤ length bs → Inside bs t.body
  function_inside low =
      let all = ap length e ∙ length-append (write_function f) rest in
      omega (arith, all, function_long f, length-drop at bs)

-- a goal's entry stands for what was read
module _ (bs : List ℕ) (at : ℕ) (g rest : List ℕ) (e : drop at bs ≡ write_goal g ++ rest) (t : Span)
    (start : t.start ≡ at + 4) (long : t.len ≡ length g) where
  pub goal_there : part_in bs t ≡ g
  goal_there =
      ap (λ k. take k (drop t.start bs)) long
      ∙ part_there bs at t.start (0x47 ∷ (0x4C ∷ ((length g / 256) ∷ ((length g % 256) ∷ [])))) g rest e start

  pub goal_inside : at ≤ length bs → Inside bs t
  goal_inside low =
      let all = ap length e ∙ length-append (write_goal g) rest in
      omega (arith, all, length-drop at bs)
