-- One literal more of a clause that is looked at.
use Rattle.std.proofs.Common.{◌≡◌, ℕ, Bool, true, false, ◌||◌, List, [], ◌∷◌, ◌++◌, Some, None, Option, sym, ap, ◌∙◌, ⊎_elim}
use mathlib.Core.Bool.{or-false}
use Rattle.std.proofs.lemmas.Bool.{both_ways, or_cases, or_left}
use Rattle.std.specs.Option.{option_or}
use Rattle.chooser.specs.Ways.{lit, some, written}
use Rattle.std.proofs.lemmas.List.Folds.{list_any-append}
use Rattle.backtrack.specs.Values.{Opened, Off}
use Rattle.backtrack.specs.Told.{Told}
use Rattle.backtrack.specs.declared.clause.Status.{Status}
use Rattle.backtrack.specs.declared.clause.Status.TheVariants.{Clash, Forced, Open, Met}

-- the status of a clause by its first open literal, and that again once another is open
abbrev pub status : Option ℕ → Option ℕ → Status
status None again = Clash
status (Some l) None = Forced l
status (Some l) (Some k) = Open l

module _ (values before : List ℕ) (l : ℕ) where
  one_more : (f : ℕ → Bool) → some f (before ++ (l ∷ [])) ≡ (some f before || f l)
  one_more f = list_any-append f before (l ∷ []) ∙ ap (λ b. some f before || b) (or-false (f l))

  last_on : (f : ℕ → Bool) → some f before ≡ false → some f (before ++ (l ∷ [])) ≡ true → f l ≡ true
  last_on f off e = ⊎_elim (λ a. absurd (both_ways (some f before) off a)) (λ b. b) (or_cases (some f before) (f l) (sym (one_more f) ∙ e))

  first_on : (f : ℕ → Bool) → f l ≡ false → some f (before ++ (l ∷ [])) ≡ true → some f before ≡ true
  first_on f off e = ⊎_elim (λ a. a) (λ b. absurd (both_ways (f l) off b)) (or_cases (some f before) (f l) (sym (one_more f) ∙ e))

  still_met : (f : ℕ → Bool) → some f before ≡ true → some f (before ++ (l ∷ [])) ≡ true
  still_met f e = one_more f ∙ or_left (some f before) (f l) e

  -- a literal that is false
  pub told_off : (s : Status) → Off values l → Told values before s → Told values (before ++ (l ∷ [])) s
  told_off Clash off h = λ p agree. one_more (lit p) ∙ ap (λ b. b || lit p l) (h p agree) ∙ off p agree
  told_off (Forced k) off h = (h.0, λ p agree e. h.1 p agree (first_on (lit p) (off p agree) e))
  told_off (Open k) off h = h
  told_off Met off h = still_met (lit (written values)) h

  -- an open literal: the first, the second, or a later one
  pub told_open : (first again : Option ℕ) → Opened values l → Told values before (status first again) → Told values (before ++ (l ∷ [])) (status (option_or first (Some l)) first)
  told_open None again open-literal h = (open-literal, λ p agree e. last_on (lit p) (h p agree) e)
  told_open (Some k) None open-literal h = h.0
  told_open (Some k) (Some j) open-literal h = h

  pub told_met : Told values before Met → Told values (before ++ (l ∷ [])) Met
  told_met h = still_met (lit (written values)) h
