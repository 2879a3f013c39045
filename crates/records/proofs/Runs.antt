-- Reading one item after another: what was read so far, and what is left to read, give the whole. Assumes nothing.
use Rattle.std.proofs.Common.{◌≡◌, ℕ, suc, ◌+◌, ◌-◌, ◌<◌, List, [], ◌∷◌, ◌++◌, length, drop, Ok, Err, Result, sym, refl, ap, ◌∙◌, subst, append_assoc, arith}
use Rattle.std.proofs.lemmas.List.{append-nil, append_cancel_right, length-append, length_push, take_at, drop_at}
use Rattle.syntax.specs.declared.faults.Fault.{Fault}
use Rattle.syntax.specs.Problems.{Each, concat, encode_list}
use Rattle.records.specs.Raw.{Few}
use Rattle.records.specs.Reading.{Read, read, and_then, preceded, list_of, lists_of}
use Rattle.records.specs.Next.{lists_in, Lists}
use Rattle.records.proofs.Sound.{list_sound}

-- a list with more items in front
abbrev pub led : {A : Type 0} → List A → Result (Read (List A)) Fault → Result (Read (List A)) Fault
led xs (Ok r) = read (xs ++ r.value) r.rest r.at
led xs (Err e) = Err e

pub led_none : {A : Type 0} (r : Result (Read (List A)) Fault) → r ≡ led [] r
led_none (Ok r) = refl
led_none (Err e) = refl

pub led_push : {A : Type 0} (xs : List A) (x : A) (r : Result (Read (List A)) Fault) → led xs (preceded x r) ≡ led (xs ++ x ∷ []) r
led_push xs x (Ok r) = ap (λ k. read k r.rest r.at) (sym (append_assoc xs (x ∷ []) r.value))
led_push xs x (Err e) = refl

pub each_push : {A : Type 0} (P : A → Type 0) (xs : List A) (x : A) → Each P xs → P x → Each P (xs ++ x ∷ [])
each_push P [] x h k = (k, tt)
each_push P (y ∷ xs) x h k = (h.0, each_push P xs x h.1 k)

pub concat_push : {A : Type 0} (w : A → List ℕ) (xs : List A) (x : A) → concat w (xs ++ x ∷ []) ≡ concat w xs ++ w x
concat_push w [] x = append-nil (w x)
concat_push w (y ∷ xs) x = ap (λ k. w y ++ k) (concat_push w xs x) ∙ sym (append_assoc (w y) (concat w xs) (w x))

-- the bytes in front of the rest, one item more
pub front_push : {A : Type 0} (w : A → List ℕ) (xs : List A) (x : A) (all rest more : List ℕ) → all ≡ concat w xs ++ rest → rest ≡ w x ++ more → all ≡ concat w (xs ++ x ∷ []) ++ more
front_push w xs x all rest more e f =
    e ∙ ap (λ k. concat w xs ++ k) f ∙ sym (append_assoc (concat w xs) (w x) more) ∙ ap (λ k. k ++ more) (sym (concat_push w xs x))

-- Of n lists, i were read: xs. The rest starts at p.
pub record Listed (m n i : ℕ) (all : List ℕ) (start : ℕ) (rest : List ℕ) (p : ℕ) : Type 0 where
  pub xs : List (List ℕ)
  pub long : length xs ≡ i
  pub few : Each Few xs
  pub front : all ≡ concat encode_list xs ++ rest
  pub leads : lists_of m n all start ≡ led xs (lists_of m (n - i) rest p)

module _ {m n i : ℕ} {all : List ℕ} {start : ℕ} {rest : List ℕ} {p : ℕ} (l : Listed m n i all start rest p) (less : i < n) where
  one_left : n - i ≡ suc (n - (i + 1))
  one_left = omega arith

  to_come : lists_of m (n - i) rest p ≡ and_then (list_of m rest p) (λ r. preceded r.value (lists_of m (n - (i + 1)) r.rest r.at))
  to_come = ap (λ k. lists_of m k rest p) one_left

  pub listed_more : {x more : List ℕ} {q : ℕ} → list_of m rest p ≡ read x more q → Listed m n (i + 1) all start more q
  listed_more {x} {more} {q} e =
      let s = list_sound m rest p e in
      record {
        xs = l.xs ++ x ∷ [];
        long = length_push l.xs x ∙ ap (λ k. k + 1) l.long;
        few = each_push Few l.xs x l.few s.1;
        front = front_push encode_list l.xs x all rest more l.front s.0;
        leads = l.leads ∙ ap (led l.xs) (to_come ∙ ap (λ d. and_then d (λ r. preceded r.value (lists_of m (n - (i + 1)) r.rest r.at))) e)
            ∙ led_push l.xs x (lists_of m (n - (i + 1)) more q);
      }

-- lists that were written are read back
pub lists_written : (xs : List (List ℕ)) → lists_in (length xs) (concat encode_list xs) ≡ xs
lists_written [] = refl
lists_written (x ∷ xs) =
    ap (λ k. k ∷ lists_in (length xs) (drop (length x) (x ++ concat encode_list xs))) (take_at x (concat encode_list xs) (length x) refl)
    ∙ ap (λ k. x ∷ lists_in (length xs) k) (drop_at x (concat encode_list xs) (length x) refl)
    ∙ ap (λ k. x ∷ k) (lists_written xs)

pub lists_stand : (xs : List (List ℕ)) → Each Few xs → Lists (length xs) (concat encode_list xs)
lists_stand [] h = refl
lists_stand (x ∷ xs) h = (
  h.0,
  omega (arith, length-append x (concat encode_list xs)),
  subst (Lists (length xs)) (sym (drop_at x (concat encode_list xs) (length x) refl)) (lists_stand xs h.1),
)

-- at the end, the part that was passed holds the lists
pub listed_all : {m n : ℕ} {all : List ℕ} {start : ℕ} {rest : List ℕ} {p : ℕ} → Listed m n n all start rest p → (part : List ℕ) → all ≡ part ++ rest →
    (lists_of m n all start ≡ read (lists_in n part) rest p) × Lists n part
listed_all {m} {n} {all} {start} {rest} {p} l part e =
    let same : part ≡ concat encode_list l.xs = append_cancel_right part (concat encode_list l.xs) rest (sym e ∙ l.front) in
    let none : n - n ≡ 0 = omega arith in
    let xs : lists_in n part ≡ l.xs = ap (lists_in n) same ∙ ap (λ k. lists_in k (concat encode_list l.xs)) (sym l.long) ∙ lists_written l.xs in (
      l.leads ∙ ap (λ k. led l.xs (lists_of m k rest p)) none ∙ ap (λ k. read k rest p) (append-nil l.xs ∙ sym xs),
      subst (Lists n) (sym same) (subst (λ k. Lists k (concat encode_list l.xs)) l.long (lists_stand l.xs l.few)),
    )
