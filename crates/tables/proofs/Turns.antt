-- A section, one record after another. Assumes nothing.
use Rattle.std.proofs.Common.{◌≡◌, ℕ, zero, suc, ◌+◌, ◌-◌, ◌<◌, ◌≤◌, Bool, true, false, cond, List, [], ◌∷◌, ◌++◌, length, drop, Some, None, Ok, Err, Option, Result, sym, refl, ap, ◌∙◌, arith}
use Rattle.std.proofs.lemmas.List.{append-nil, length_push}
use Rattle.syntax.specs.declared.faults.Fault.{Fault}
use Rattle.syntax.specs.declared.faults.Reason.TheVariants.{BadCount}
use Rattle.syntax.specs.Faults.{fault}
use Rattle.syntax.specs.Problems.{concat}
use Rattle.records.specs.Reading.{Read, read, and_then, preceded, many, starts}
use Rattle.records.specs.declared.reader.Reader.{Reader}
use Rattle.records.specs.Next.{next}
use Rattle.records.specs.Readers.{ahead_of}
use Rattle.tables.specs.Sections.{Section}
use Rattle.records.proofs.Runs.{led, led_none, led_push, front_push}

same_some : {A : Type 0} {x y : A} → ◌≡◌ {A = Result (Option A) Fault} (Ok (Some x)) (Ok (Some y)) → x ≡ y
same_some e = cc

same_fault : {A : Type 0} {f g : Fault} → ◌≡◌ {A = Result A Fault} (Err f) (Err g) → f ≡ g
same_fault e = cc

module _ {A : Type 0} (one : ℕ → List ℕ → ℕ → Result (Read A) Fault) (a b : ℕ) (bs : List ℕ) (p : ℕ) where
  -- a record is handed out only where there is room for it
  pub had_room : (room : ℕ) {r : Read A} → next one a b room bs p ≡ Ok (Some r) → 0 < room
  had_room zero {r} e = by (starts a b bs) e
    where
      by : (t : Bool) → cond t (Err (fault BadCount p)) (Ok None) ≡ Ok (Some r) → 0 < 0
      by true e = cc
      by false e = cc
  had_room (suc n) e = omega arith

  pub many_some : (n : ℕ) {r : Read A} → next one a b (suc n) bs p ≡ Ok (Some r) → many one a b (suc n) bs p ≡ preceded r.value (many one a b n r.rest r.at)
  many_some n {r} e = by (starts a b bs) (one p (drop 2 bs) (p + 2)) e
    where
      by : (t : Bool) (d : Result (Read A) Fault) → cond t (and_then d (λ s. Ok (Some s))) (Ok None) ≡ Ok (Some r) →
          cond t (and_then d (λ s. preceded s.value (many one a b n s.rest s.at))) (read [] bs p) ≡ preceded r.value (many one a b n r.rest r.at)
      by true (Ok s) e = ap (λ s. preceded s.value (many one a b n s.rest s.at)) (same_some e)
      by true (Err f) e = cc
      by false d e = cc

  pub many_none : (room : ℕ) → next one a b room bs p ≡ Ok None → many one a b room bs p ≡ read [] bs p
  many_none zero e = by (starts a b bs) e
    where
      by : (t : Bool) → ◌≡◌ {A = Result (Option (Read A)) Fault} (cond t (Err (fault BadCount p)) (Ok None)) (Ok None) → ◌≡◌ {A = Result (Read (List A)) Fault} (cond t (Err (fault BadCount p)) (read [] bs p)) (read [] bs p)
      by true e = cc
      by false e = refl
  many_none (suc n) e = by (starts a b bs) (one p (drop 2 bs) (p + 2)) e
    where
      by : (t : Bool) (d : Result (Read A) Fault) → cond t (and_then d (λ s. Ok (Some s))) (Ok None) ≡ Ok None →
          cond t (and_then d (λ s. preceded s.value (many one a b n s.rest s.at))) (read [] bs p) ≡ read [] bs p
      by true (Ok s) e = cc
      by true (Err f) e = cc
      by false d e = refl

  pub many_refused : (room : ℕ) {f : Fault} → next one a b room bs p ≡ Err f → many one a b room bs p ≡ Err f
  many_refused zero {f} e = by (starts a b bs) e
    where
      by : (t : Bool) → ◌≡◌ {A = Result (Option (Read A)) Fault} (cond t (Err (fault BadCount p)) (Ok None)) (Err f) → ◌≡◌ {A = Result (Read (List A)) Fault} (cond t (Err (fault BadCount p)) (read [] bs p)) (Err f)
      by true e = ap Err (same_fault e)
      by false e = cc
  many_refused (suc n) {f} e = by (starts a b bs) (one p (drop 2 bs) (p + 2)) e
    where
      by : (t : Bool) (d : Result (Read A) Fault) → cond t (and_then d (λ s. Ok (Some s))) (Ok None) ≡ Err f →
          cond t (and_then d (λ s. preceded s.value (many one a b n s.rest s.at))) (read [] bs p) ≡ Err f
      by true (Ok s) e = cc
      by true (Err g) e = ap Err (same_fault e)
      by false d e = cc

-- Of at most so many records, xs were read.
pub record Upto {A : Type 0} (one : ℕ → List ℕ → ℕ → Result (Read A) Fault) (w : A → List ℕ) (a b most : ℕ) (before after : Reader) (xs : List A) : Type 0 where
  pub same : after.bytes.now ≡ before.bytes.now
  pub few : length xs ≤ most
  pub leads : many one a b most (ahead_of before) before.at ≡ led xs (many one a b (most - length xs) (ahead_of after) after.at)
  pub front : ahead_of before ≡ concat w xs ++ ahead_of after

pub upto_none : {A : Type 0} (one : ℕ → List ℕ → ℕ → Result (Read A) Fault) (w : A → List ℕ) (a b most : ℕ) (r : Reader) → Upto one w a b most r r []
upto_none one w a b most r =
    let all : most ≡ most - 0 = omega arith in
    record {
      same = refl;
      few = omega arith;
      leads = led_none (many one a b most (ahead_of r) r.at) ∙ ap (λ k. led [] (many one a b k (ahead_of r) r.at)) all;
      front = refl;
    }

module _ {A : Type 0} {one : ℕ → List ℕ → ℕ → Result (Read A) Fault} {w : A → List ℕ} {a b most : ℕ} {before here : Reader} {xs : List A}
    (u : Upto one w a b most before here xs) (room : ℕ) (left : room ≡ most - length xs) where
  pub upto_more : (after : Reader) (x : A) → after.bytes.now ≡ here.bytes.now →
      next one a b room (ahead_of here) here.at ≡ Ok (Some (record { value = x; rest = ahead_of after; at = after.at })) →
      ahead_of here ≡ w x ++ ahead_of after → Upto one w a b most before after (xs ++ x ∷ [])
  upto_more after x same e f =
      let some = had_room one a b (ahead_of here) here.at room e in
      let n = most - length (xs ++ x ∷ []) in
      let longer = length_push xs x in
      let one_more : room ≡ suc n = omega arith in
      let few = u.few in
      record {
        same = same ∙ u.same;
        few = omega arith;
        leads = u.leads ∙ ap (λ k. led xs (many one a b k (ahead_of here) here.at)) (sym left ∙ one_more)
            ∙ ap (led xs) (many_some one a b (ahead_of here) here.at n (ap (λ k. next one a b k (ahead_of here) here.at) (sym one_more) ∙ e))
            ∙ led_push xs x (many one a b n (ahead_of after) after.at);
        front = front_push w xs x (ahead_of before) (ahead_of here) (ahead_of after) u.front f;
      }

  pub upto_refused : {f : Fault} → next one a b room (ahead_of here) here.at ≡ Err f → many one a b most (ahead_of before) before.at ≡ Err f
  upto_refused e =
      u.leads ∙ ap (λ k. led xs (many one a b k (ahead_of here) here.at)) (sym left) ∙ ap (led xs) (many_refused one a b (ahead_of here) here.at room e)

  pub upto_all : next one a b room (ahead_of here) here.at ≡ Ok None → Section one w a b most before here xs
  upto_all e =
      record {
        same = u.same;
        is = u.leads ∙ ap (λ k. led xs (many one a b k (ahead_of here) here.at)) (sym left)
            ∙ ap (led xs) (many_none one a b (ahead_of here) here.at room e) ∙ ap (λ k. read k (ahead_of here) here.at) (append-nil xs);
        front = u.front;
      }
