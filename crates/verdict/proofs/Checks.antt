-- The steps of the checks over the tables: a term that is accepted is passed, and the first that is refused decides.
use Rattle.std.proofs.Common.{◌≡◌, ℕ, ◌+◌, ◌<◌, ◌≤◌, List, [], ◌∷◌, length, get_or, drop, Ok, Err, Result, sym, refl, ◌∙◌}
use Rattle.std.proofs.lemmas.List.{at_drop_more, at_drop_all}
use Rattle.syntax.specs.declared.faults.Fault.{Fault}
use Rattle.syntax.specs.declared.tables.Callable.{Callable}
use Rattle.syntax.specs.declared.tables.Span.{Span}
use Rattle.syntax.specs.Tables.{listed, profile_in}
use Rattle.syntax.specs.Terms.{Term}
use Rattle.syntax.specs.Typing.{Sig}
use Rattle.syntax.specs.Problems.{Function}
use Rattle.records.specs.Reading.{and_then}
use Rattle.records.proofs.Results.{never_ok}
use Rattle.tables.specs.Tabled.{part_in}
use Rattle.reading.specs.Reading.{reading, verdict}
use Rattle.verdict.specs.Verdict.{term_in}
use Rattle.verdict.specs.ByTables.{fault_of, bodies_by, goals_by, terms_by}

-- the same bytes, read the same way
pub same_reading : {sig sig' : Sig} {vs vs' xs xs' : List ℕ} (ty p : ℕ) → sig ≡ sig' → vs ≡ vs' → xs ≡ xs' → verdict (reading sig vs ty p xs) ≡ verdict (reading sig' vs' ty p xs')
same_reading ty p a b c = cc

module _ {B C : Type 0} (k : Result B Fault) (g : Term → B → C) where
  kept : (k : Result B Fault) (t : Term) → fault_of (and_then k (λ x. Ok (g t x))) ≡ fault_of k
  kept (Ok x) t = refl
  kept (Err f) t = refl

  passed : (x : Result Term ℕ) → Ok tt ≡ verdict x → fault_of (and_then (term_in x) (λ t. and_then k (λ y. Ok (g t y)))) ≡ fault_of k
  passed (Ok t) e = kept k t
  passed (Err p) e = never_ok (sym e)

  refused : (x : Result Term ℕ) (f : Fault) → Err f ≡ verdict x → fault_of (and_then (term_in x) (λ t. and_then k (λ y. Ok (g t y)))) ≡ Err f
  refused (Ok t) f e = never_ok e
  refused (Err p) f e = sym e

module _ (sig : Sig) (bs : List ℕ) (fs : List Callable) (i : ℕ) where
  abbrev body_read : Callable → Result Term ℕ
  body_read f = reading sig (listed f.params) f.result f.body.start (part_in bs f.body)

  abbrev left : List Callable → Result (Unit {0}) Fault
  left xs = fault_of (bodies_by sig bs xs)

  abbrev with_body : Callable → Term → List Function → List Function
  with_body f t gs = record { profile = profile_in f; body = t } ∷ gs

  pub body_passed : (d : Callable) → i < length fs → Ok tt ≡ verdict (body_read (get_or fs i d)) → left (drop i fs) ≡ left (drop (i + 1) fs)
  body_passed d h e =
      at_drop_more left fs i d h ∙ passed (bodies_by sig bs (drop (i + 1) fs)) (with_body (get_or fs i d)) (body_read (get_or fs i d)) e

  pub body_refused : (d : Callable) → i < length fs → (f : Fault) → Err f ≡ verdict (body_read (get_or fs i d)) → left (drop i fs) ≡ Err f
  body_refused d h f e =
      at_drop_more left fs i d h ∙ refused (bodies_by sig bs (drop (i + 1) fs)) (with_body (get_or fs i d)) (body_read (get_or fs i d)) f e

  pub bodies_done : length fs ≤ i → left (drop i fs) ≡ Ok tt
  bodies_done h = at_drop_all left fs i h

abbrev pub no_span : Span
no_span = record { start = 0; len = 0 }

module _ (sig : Sig) (bs : List ℕ) (gs : List Span) (i : ℕ) where
  abbrev goal_read : Span → Result Term ℕ
  goal_read g = reading sig [] 0 g.start (part_in bs g)

  abbrev goals_left : List Span → Result (Unit {0}) Fault
  goals_left xs = fault_of (goals_by sig bs xs)

  pub goal_passed : (d : Span) → i < length gs → Ok tt ≡ verdict (goal_read (get_or gs i d)) → goals_left (drop i gs) ≡ goals_left (drop (i + 1) gs)
  goal_passed d h e =
      at_drop_more goals_left gs i d h ∙ passed (goals_by sig bs (drop (i + 1) gs)) (λ t ts. t ∷ ts) (goal_read (get_or gs i d)) e

  pub goal_refused : (d : Span) → i < length gs → (f : Fault) → Err f ≡ verdict (goal_read (get_or gs i d)) → goals_left (drop i gs) ≡ Err f
  goal_refused d h f e =
      at_drop_more goals_left gs i d h ∙ refused (goals_by sig bs (drop (i + 1) gs)) (λ t ts. t ∷ ts) (goal_read (get_or gs i d)) f e

  pub goals_done : length gs ≤ i → goals_left (drop i gs) ≡ Ok tt
  goals_done h = at_drop_all goals_left gs i h

-- the bodies, and then the goals
both_kept : {A B : Type 0} (x : Result A Fault) (y : Result B Fault) → Ok tt ≡ fault_of x → fault_of {A = A × B} (and_then x (λ a. and_then y (λ b. Ok (a, b)))) ≡ fault_of y
both_kept (Ok a) (Ok b) e = refl
both_kept (Ok a) (Err f) e = refl
both_kept (Err f) y e = never_ok (sym e)

first_kept : {A B : Type 0} (x : Result A Fault) (y : Result B Fault) (f : Fault) → Err f ≡ fault_of x → fault_of {A = A × B} (and_then x (λ a. and_then y (λ b. Ok (a, b)))) ≡ Err f
first_kept (Ok a) y f e = never_ok e
first_kept (Err g) y f e = sym e

module _ (sig : Sig) (bs : List ℕ) (fs : List Callable) (gs : List Span) where
  pub terms_passed : Ok tt ≡ fault_of (bodies_by sig bs fs) → fault_of (terms_by sig bs fs gs) ≡ fault_of (goals_by sig bs gs)
  terms_passed e = both_kept (bodies_by sig bs fs) (goals_by sig bs gs) e

  pub terms_refused : (f : Fault) → Err f ≡ fault_of (bodies_by sig bs fs) → fault_of (terms_by sig bs fs gs) ≡ Err f
  terms_refused f e = first_kept (bodies_by sig bs fs) (goals_by sig bs gs) f e
