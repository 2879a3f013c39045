-- The walk below one unknown, child by child: what was appended and what is left are its bytes.
use Rattle.std.proofs.Common.{◌≡◌, ℕ, ◌+◌, ◌-◌, ◌<◌, ◌≤◌, ◌↔◌, List, [], ◌∷◌, ◌++◌, length, get_or, Some, None, Ok, Err, Option, Result, IsOk, OnOk, sym, ap, ◌∙◌, subst, arith, append_assoc, append-nil, length-append}
use Rattle.std.proofs.lemmas.Bool.{false≢true}
use Rattle.unknowns.specs.Listing.{row}
use Rattle.unknowns.specs.declared.table.Table.{Table as Code}
use Rattle.unknowns.specs.declared.table.Case.{Case}
use Rattle.models.specs.Models.{most_bytes}
use Rattle.models.specs.Walks.{CaseAt, ValueAt, bytes_of, Appended, ValueWritten}
use Rattle.models.proofs.Values.{type_is, left, whole, nothing_left, child_at, open_bytes}

-- what has room is appended
pub appended : {U E : Type 0} (r : Result U E) (old new bytes : List ℕ) → (IsOk r ↔ (length old + length bytes ≤ most_bytes))
    → OnOk r (new ≡ old ++ bytes) → length old + length bytes ≤ most_bytes → Appended bytes old new r
appended (Ok u) old new bytes variant ok room = ok
appended (Err e) old new bytes variant ok room = absurd (false≢true (variant.1 room))

one_case : {x y : Case} {o : Option Case} → o ≡ Some x → o ≡ Some y → x ≡ y
one_case e f = cc

-- With the children before the place `next` written: the bytes so far, and those that are left, are the whole.
pub record Walked (t : Code) (cases : List (Option Case)) (i : ℕ) (old now : List ℕ) (next : ℕ) : Type 0 where
  pub whole : (v : ValueAt t cases i) → length old + length (bytes_of v) ≤ most_bytes → (x : Case) (is : get_or cases i None ≡ Some x)
      → now ++ left v x (next - x.kids) ≡ old ++ bytes_of v

module _ {t : Code} {cases : List (Option Case)} {i : ℕ} (old : List ℕ) where
  pub open_written : {U E : Type 0} (new : List ℕ) (r : Result U E) → CaseAt t cases i None → (IsOk r ↔ (length old + 1 ≤ most_bytes))
      → OnOk r (new ≡ old ++ 8 ∷ []) → ValueWritten t cases i old new r
  open_written new r none variant ok =
      record {
        writes = λ v room.
            subst (λ bytes. Appended bytes old new r) (sym (open_bytes v none))
            (appended r old new (8 ∷ []) variant ok (subst (λ (bytes : List ℕ). length old + length bytes ≤ most_bytes) (open_bytes v none) room));
      }

  module _ (y : Case) (here : get_or cases i None ≡ Some y) where
    -- the bytes that lead a value have room
    lead_fits : (v : ValueAt t cases i) → length old + length (bytes_of v) ≤ most_bytes → length old + 3 ≤ most_bytes
    lead_fits v room =
        let all = ap length (whole v y here) in
        omega (arith, room, all)

    pub no_lead : {U E : Type 0} (new : List ℕ) (r : Result U E) (never : length old + 3 ≤ most_bytes → ⊥) → ValueWritten t cases i old new r
    no_lead new r never = record { writes = λ v room. absurd (never (lead_fits v room)) }

    by_this_case : (now : List ℕ) (next : ℕ)
        → ((v : ValueAt t cases i) → length old + length (bytes_of v) ≤ most_bytes → now ++ left v y (next - y.kids) ≡ old ++ bytes_of v)
        → Walked t cases i old now next
    by_this_case now next f =
        record { whole = λ v room x there. subst (λ (c : Case). now ++ left v c (next - c.kids) ≡ old ++ bytes_of v) (one_case here there) (f v room) }

    pub begun : (b : ℕ) (now : List ℕ) (next : ℕ) → b ≡ (row t i).ty → now ≡ old ++ 2 ∷ (b ∷ (y.constructor ∷ [])) → next ≡ y.kids
        → Walked t cases i old now next
    begun b now next own is from =
        by_this_case now next
        (λ v room.
        let none : next - y.kids ≡ 0 = omega (arith, from) in
        ap (λ j. now ++ left v y j) none
        ∙ ap (λ bytes. bytes ++ left v y 0) is
        ∙ append_assoc old (2 ∷ (b ∷ (y.constructor ∷ []))) (left v y 0)
        ∙ ap (λ b. old ++ 2 ∷ (b ∷ (y.constructor ∷ left v y 0))) (own ∙ type_is v)
        ∙ ap (λ bytes. old ++ bytes) (sym (whole v y here)))

    module _ (now : List ℕ) (next : ℕ) (walked : Walked t cases i old now next) where
      module _ (after : y.kids ≤ next) (before : next < y.kids + y.count) (v : ValueAt t cases i) (room : length old + length (bytes_of v) ≤ most_bytes) where
        abbrev j : ℕ
        j = next - y.kids

        nth : (k : ValueAt t cases (y.kids + j)) × (left v y j ≡ bytes_of k ++ left v y (j + 1))
        nth = child_at v y here j (omega (arith, after, before))

        at_next : y.kids + j ≡ next
        at_next = omega (arith, after)

        child_fits : length now + length (bytes_of nth.0) ≤ most_bytes
        child_fits =
            let sum = ap length (walked.whole v room y here) in
            let split = ap length nth.1 in
            let a = length-append now (left v y j) in
            let b = length-append old (bytes_of v) in
            let c = length-append (bytes_of nth.0) (left v y (j + 1)) in
            omega (arith, sum, split, a, b, c, room)

        child_writes : {U E : Type 0} (new : List ℕ) (r : Result U E) → ValueWritten t cases next now new r → Appended (bytes_of nth.0) now new r
        child_writes new r written = (subst (λ n. ValueWritten t cases n now new r) (sym at_next) written).writes nth.0 child_fits

      pub child_refused : {U V E F : Type 0} (new : List ℕ) (e : E) (r : Result V F) → y.kids ≤ next → next < y.kids + y.count
          → ValueWritten {U = U} {E = E} t cases next now new (Err e) → ValueWritten t cases i old new r
      child_refused new e r after before written =
          record { writes = λ v room. absurd (child_writes after before v room new (Err e) written) }

      pub child_written : {U E : Type 0} (new : List ℕ) (u : U) → y.kids ≤ next → next < y.kids + y.count
          → ValueWritten {U = U} {E = E} t cases next now new (Ok u) → Walked t cases i old new (next + 1)
      child_written {U} {E} new u after before written =
          by_this_case new (next + 1)
          (λ v room.
          let k = nth after before v room in
          let step : next + 1 - y.kids ≡ next - y.kids + 1 = omega (arith, after) in
          ap (λ n. new ++ left v y n) step
          ∙ ap (λ bytes. bytes ++ left v y (next - y.kids + 1)) (child_writes after before v room {U = U} {E = E} new (Ok u) written)
          ∙ append_assoc now (bytes_of k.0) (left v y (next - y.kids + 1))
          ∙ ap (λ bytes. now ++ bytes) (sym k.1)
          ∙ walked.whole v room y here)

      pub all_written : {U E : Type 0} (u : U) → y.kids + y.count ≤ next → ValueWritten {U = U} {E = E} t cases i old now (Ok u)
      all_written u over =
          record {
            writes = λ v room.
                sym (append-nil now)
                ∙ ap (λ bytes. now ++ bytes) (sym (nothing_left v y here (next - y.kids) (omega (arith, over))))
                ∙ walked.whole v room y here;
          }
