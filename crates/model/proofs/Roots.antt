-- One record of model bytes at a time.
use Rattle.std.proofs.Common.{◌≡◌, ℕ, ◌+◌, ◌<◌, ◌≤◌, Bool, cond, List, [], ◌∷◌, ◌++◌, length, get_or, drop, Ok, Err, Result, sym, refl, ap, ◌∙◌, add-one, arith, drop-cons}
use Rattle.std.proofs.lemmas.Bool.{lt-ltb, le-ltb}
use Rattle.std.proofs.lemmas.List.{drop_all}
use Rattle.syntax.specs.declared.faults.Fault.{Fault}
use Rattle.syntax.specs.declared.faults.Reason.TheVariants.{BytesAfter}
use Rattle.syntax.specs.Faults.{fault}
use Rattle.syntax.specs.Typing.{Sig}
use Rattle.records.specs.Reading.{and_then}
use Rattle.model.specs.Reading.{value_end, start_of, preceded, places_from}

pub first : (xs : List ℕ) (i : ℕ) → i < length xs → drop i xs ≡ get_or xs i 0 ∷ drop (i + 1) xs
first xs i h = drop-cons xs i 0 h ∙ ap (λ j. get_or xs i 0 ∷ drop j xs) (sym (add-one i))

-- places before those of a result
abbrev pub after : List ℕ → Result (List ℕ) Fault → Result (List ℕ) Fault
after [] r = r
after (x ∷ xs) r = preceded x (after xs r)

after_one : (xs : List ℕ) (x : ℕ) (r : Result (List ℕ) Fault) → after xs (preceded x r) ≡ after (xs ++ x ∷ []) r
after_one [] x r = refl
after_one (y ∷ xs) x r = ap (preceded y) (after_one xs x r)

after_fault : (xs : List ℕ) (e : Fault) → after xs (Err e) ≡ Err e
after_fault [] e = refl
after_fault (x ∷ xs) e = ap (preceded x) (after_fault xs e)

after_all : (xs : List ℕ) → after xs (Ok []) ≡ Ok xs
after_all [] = refl
after_all (x ∷ xs) = ap (preceded x) (after_all xs)

-- The places so far, of the records of the unknowns below k: the next starts at p.
pub record Rooted (sig : Sig) (bs types roots : List ℕ) (k p : ℕ) : Type 0 where
  pub long : length roots ≡ k
  pub low : p ≤ length bs
  pub whole : places_from sig bs 0 types 0 ≡ after roots (places_from sig bs k (drop k types) p)

module _ {sig : Sig} {bs types roots : List ℕ} {k p : ℕ} (so_far : Rooted sig bs types roots k p) where
  at_end : length types ≤ k → places_from sig bs k (drop k types) p ≡ places_from sig bs k [] p
  at_end h = ap (λ (ts : List ℕ). places_from sig bs k ts p) (drop_all k types h)

  pub rooted_after : length types ≤ k → p < length bs → places_from sig bs 0 types 0 ≡ Err (fault BytesAfter p)
  rooted_after h lt =
      so_far.whole ∙ ap (after roots) (at_end h ∙ ap (λ (b : Bool). cond b (Err (fault BytesAfter p)) (Ok [])) (lt-ltb p (length bs) lt))
      ∙ after_fault roots (fault BytesAfter p)

  pub rooted_all : length types ≤ k → length bs ≤ p → places_from sig bs 0 types 0 ≡ Ok roots
  rooted_all h le =
      so_far.whole ∙ ap (after roots) (at_end h ∙ ap (λ (b : Bool). cond b (Err (fault BytesAfter p)) (Ok [])) (le-ltb p (length bs) le))
      ∙ after_all roots

  abbrev rest : ℕ → Result ℕ Fault → Result (List ℕ) Fault
  rest v r = and_then r (λ q. preceded v (places_from sig bs (k + 1) (drop (k + 1) types) q))

  abbrev value : ℕ → Result ℕ Fault
  value v = value_end (length bs) sig bs p (get_or types k 0) v

  by_start : (r : Result ℕ Fault) → k < length types → r ≡ start_of bs k p
      → places_from sig bs k (drop k types) p ≡ and_then r (λ v. rest v (value v))
  by_start r h e =
      ap (λ (ts : List ℕ). places_from sig bs k ts p) (first types k h)
      ∙ ap (λ (o : Result ℕ Fault). and_then o (λ v. rest v (value v))) (sym e)

  pub rooted_no_start : (e : Fault) → k < length types → Err e ≡ start_of bs k p → places_from sig bs 0 types 0 ≡ Err e
  rooted_no_start e h is = so_far.whole ∙ ap (after roots) (by_start (Err e) h is) ∙ after_fault roots e

  pub rooted_no_value : (v : ℕ) (e : Fault) → k < length types → Ok v ≡ start_of bs k p → Err e ≡ value v → places_from sig bs 0 types 0 ≡ Err e
  rooted_no_value v e h is no_value = so_far.whole ∙ ap (after roots) (by_start (Ok v) h is ∙ ap (rest v) (sym no_value)) ∙ after_fault roots e

  pub rooted_more : (v q : ℕ) (now : List ℕ) → k < length types → Ok v ≡ start_of bs k p → Ok q ≡ value v → q ≤ length bs
      → now ≡ roots ++ v ∷ [] → length now ≡ length roots + 1 → Rooted sig bs types now (k + 1) q
  rooted_more v q now h is there low grown longer = record {
    long = omega (arith, longer, so_far.long);
    low = low;
    whole = so_far.whole ∙ ap (after roots) (by_start (Ok v) h is ∙ ap (rest v) (sym there))
        ∙ after_one roots v (places_from sig bs (k + 1) (drop (k + 1) types) q)
        ∙ ap (λ (xs : List ℕ). after xs (places_from sig bs (k + 1) (drop (k + 1) types) q)) (sym grown);
  }
