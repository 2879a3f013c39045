-- One step of reading a value at a time.
use Rattle.std.proofs.Common.{◌≡◌, ℕ, zero, suc, ◌+◌, ◌-◌, ◌<◌, ◌≤◌, Bool, cond, List, ◌∷◌, length, get_or, drop, Some, None, Ok, Err, Option, Result, sym, ap, ◌∙◌, add-one, sub-one, arith, drop-cons}
use Rattle.std.proofs.lemmas.Bool.{le-ltb}
use Rattle.std.proofs.lemmas.List.{drop_all}
use Rattle.syntax.specs.declared.faults.Fault.{Fault}
use Rattle.syntax.specs.declared.faults.Reason.TheVariants.{PastEnd}
use Rattle.syntax.specs.Faults.{fault}
use Rattle.syntax.specs.Typing.{Sig, arguments}
use Rattle.records.specs.Reading.{and_then}
use Rattle.model.specs.Reading.{there, ends, top_of, end_by, value_end}

past_there : {A : Type 0} (bs : List ℕ) (mark p : ℕ) (r : Result A Fault) → length bs ≤ p → there bs mark p r ≡ Err (fault PastEnd mark)
past_there bs mark p r h = ap (λ (b : Bool). cond b r (Err (fault PastEnd mark))) (le-ltb p (length bs) h)

top_past : (sig : Sig) (bs : List ℕ) (mark t p : ℕ) → length bs ≤ p → top_of sig bs mark t p ≡ Err (fault PastEnd mark)
top_past sig bs mark t p h = past_there bs mark p _ h

-- with as much depth as there are bytes left, a value is read by its top
pub value_opens : (n : ℕ) (sig : Sig) (bs : List ℕ) (mark t p : ℕ) → length bs ≤ p + n
    → and_then (top_of sig bs mark t p) (end_by (value_end (n - 1) sig bs mark) sig t p) ≡ value_end n sig bs mark t p
unfolding value_end
value_opens zero sig bs mark t p h = ap (λ (r : Result (Option ℕ) Fault). and_then r (end_by (value_end (0 - 1) sig bs mark) sig t p)) (top_past sig bs mark t p (omega arith))
value_opens (suc n) sig bs mark t p h = simp sub-one

module _ (n : ℕ) (sig : Sig) (bs : List ℕ) (mark t p : ℕ) (deep : length bs ≤ p + n) where
  by_top : (o : Result (Option ℕ) Fault) → o ≡ top_of sig bs mark t p
      → and_then o (end_by (value_end (n - 1) sig bs mark) sig t p) ≡ value_end n sig bs mark t p
  by_top o e = ap (λ (r : Result (Option ℕ) Fault). and_then r (end_by (value_end (n - 1) sig bs mark) sig t p)) e ∙ value_opens n sig bs mark t p deep

  pub value_fails : (e : Fault) → Err e ≡ top_of sig bs mark t p → Err e ≡ value_end n sig bs mark t p
  value_fails e h = by_top (Err e) h

  pub value_open : Ok None ≡ top_of sig bs mark t p → Ok (p + 1) ≡ value_end n sig bs mark t p
  value_open h = by_top (Ok None) h

  pub value_built : (c : ℕ) (types : List ℕ) (r : Result ℕ Fault) → Ok (Some c) ≡ top_of sig bs mark t p → types ≡ arguments sig t c → p + 3 ≤ length bs
      → ((k : ℕ) → length bs ≤ p + 3 + k → r ≡ ends (value_end k sig bs mark) types (p + 3)) → r ≡ value_end n sig bs mark t p
  value_built c types r h is low go =
      go (n - 1) (omega arith) ∙ ap (λ (ts : List ℕ). ends (value_end (n - 1) sig bs mark) ts (p + 3)) is ∙ by_top (Ok (Some c)) h

module _ (one : ℕ → ℕ → Result ℕ Fault) (types : List ℕ) (next p : ℕ) where
  pub ends_none : length types ≤ next → Ok p ≡ ends one (drop next types) p
  ends_none h = ap (λ (ts : List ℕ). ends one ts p) (sym (drop_all next types h))

  first : next < length types → get_or types next 0 ∷ drop (next + 1) types ≡ drop next types
  first h = ap (λ i. get_or types next 0 ∷ drop i types) (add-one next) ∙ sym (drop-cons types next 0 h)

  pub ends_fails : (e : Fault) → next < length types → Err e ≡ one (get_or types next 0) p → Err e ≡ ends one (drop next types) p
  ends_fails e h is = ap (λ (r : Result ℕ Fault). and_then r (ends one (drop (next + 1) types))) is ∙ ap (λ (ts : List ℕ). ends one ts p) (first h)
