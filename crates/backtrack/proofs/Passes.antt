-- One clause more of a pass, and how the pass ends.
use Rattle.std.proofs.Common.{◌≡◌, ℕ, ◌/◌, ◌<◌, ◌≤◌, Bool, true, false, ◌&&◌, List, [], ◌∷◌, ◌++◌, length, set, Ok, Err, Result, Some, None, Option, sym, refl, ap, ◌∙◌, subst, arith, append_assoc, length-append}
use mathlib.Core.Bool.{and_comm, or-false}
use Rattle.std.proofs.lemmas.Bool.{and_parts, both_ways}
use Rattle.std.proofs.lemmas.List.{append-nil}
use Rattle.std.proofs.lemmas.List.Folds.{list_all-append}
use Rattle.std.specs.List.{list_all}
use Rattle.std.specs.Option.{option_or}
use Rattle.std.specs.Result.{IsErr}
use Rattle.chooser.specs.Ways.{lit, some, every, written}
use Rattle.rows.specs.Rows.{holds, clauses_of}
use Rattle.rows.proofs.Clauses.{holds_clauses}
use Rattle.backtrack.specs.Values.{Agrees, Opened, bit}
use Rattle.backtrack.specs.Trail.{Trail}
use Rattle.backtrack.specs.Solved.{allowed}
use Rattle.backtrack.specs.Swept.{met, singles, Calm, Passing, Clashed, Swept}
use Rattle.backtrack.specs.declared.Clash.{Clash}
use Rattle.backtrack.specs.declared.Pass.{Pass}
use Rattle.backtrack.specs.declared.trail.Step.{Step}
use Rattle.backtrack.specs.declared.trail.Step.TheVariants.{Follows}
use Rattle.backtrack.proofs.Trails.{trail_push, dead_clash, leads_clause}

singles_met : (f : ℕ → Bool) (ls : List ℕ) → list_all (some f) (singles ls) ≡ every f ls
singles_met f [] = refl
singles_met f (l ∷ ls) = ap (λ b. b && list_all (some f) (singles ls)) (or-false (f l)) ∙ ap (λ b. f l && b) (singles_met f ls)

-- what is allowed, as the clauses that a pass goes over
pub allowed_clauses : (row assumptions : List ℕ) (p : ℕ → Bool) → allowed row assumptions p ≡ met (singles assumptions ++ clauses_of row) p
allowed_clauses row assumptions p =
    let f = lit p in
    and_comm (holds f true 0 row) (every f assumptions)
    ∙ ap (λ b. every f assumptions && b) (holds_clauses f row)
    ∙ ap (λ b. b && list_all (some f) (clauses_of row)) (sym (singles_met f assumptions))
    ∙ sym (list_all-append (some f) (singles assumptions) (clauses_of row))

module _ (X : (ℕ → Bool) → Bool) where
  pub pass_start : (clauses : List (List ℕ)) (values : List ℕ) (start : List Step) → ((p : ℕ → Bool) → X p ≡ met clauses p) → Trail X values start → Passing X clauses start values start None
  pass_start clauses values start same t =
      record { goes = t; more = []; grown = sym (append-nil start); owed = λ p x. sym (same p) ∙ x; calm = λ e. same (written values) }

  module _ (clause : List ℕ) (left : List (List ℕ)) (start : List Step) (values : List ℕ) (steps : List Step) (o : Option ℕ)
      (now : Passing X (clause ∷ left) start values steps o) where
    parts : (p : ℕ → Bool) → X p ≡ true → (some (lit p) clause ≡ true) × (met left p ≡ true)
    parts p x = and_parts (some (lit p) clause) (met left p) (now.owed p x)

    pub pass_clash : ((p : ℕ → Bool) → Agrees p values → some (lit p) clause ≡ false) → Clashed X start values steps
    pass_clash clash =
        record { goes = now.goes; more = now.more; grown = now.grown; dead = dead_clash X values steps now.goes clause (λ p x. (parts p x).0) clash }

    pub pass_met : some (lit (written values)) clause ≡ true → Passing X left start values steps o
    pass_met on =
        record { goes = now.goes; more = now.more; grown = now.grown; owed = λ p x. (parts p x).1; calm = λ e. calm_met o (now.calm e) }
      where
        calm_met : (q : Option ℕ) → Calm X (clause ∷ left) values q → Calm X left values q
        calm_met None h = h ∙ ap (λ b. b && met left (written values)) on
        calm_met (Some l) h = h

    pub pass_open : (l : ℕ) → Opened values l → Passing X left start values steps (option_or o (Some l))
    pass_open l h =
        record { goes = now.goes; more = now.more; grown = now.grown; owed = λ p x. (parts p x).1; calm = λ e. calm_open o (now.calm e) }
      where
        calm_open : (q : Option ℕ) → Calm X (clause ∷ left) values q → Calm X left values (option_or q (Some l))
        calm_open None was = h
        calm_open (Some k) was = was

    pub pass_push : (l : ℕ) → Opened values l → ((p : ℕ → Bool) → Agrees p values → some (lit p) clause ≡ true → lit p l ≡ true)
        → Passing X left start (set values (l / 2) (bit l)) (steps ++ (Follows l ∷ [])) o
    pass_push l h forced =
        record {
          goes = trail_push X values steps now.goes (Follows l) h (leads_clause X values steps now.goes clause l (λ p x. (parts p x).0) forced);
          more = now.more ++ (Follows l ∷ []);
          grown = ap (λ z. z ++ (Follows l ∷ [])) now.grown ∙ append_assoc start now.more (Follows l ∷ []);
          owed = λ p x. (parts p x).1;
          calm = λ e. let z : ⊥ = omega (arith, ap length e, length-append now.more (Follows l ∷ [])) in absurd z;
        }

  -- no clause is left
  module _ (start : List Step) (values : List ℕ) (steps : List Step) (o : Option ℕ) (now : Passing X [] start values steps o) where
    nothing : (xs : List Step) → length xs ≤ 0 → xs ≡ []
    nothing [] le = refl
    nothing (x ∷ xs) le = let z : ⊥ = omega arith in absurd z

    pub pass_moved : length start < length steps → now.more ≡ [] → ⊥
    pass_moved lt e = omega (arith, ap length now.grown, length-append start now.more, ap length e)

    still : length steps ≤ length start → now.more ≡ []
    still le = nothing now.more (omega (arith, ap length now.grown, length-append start now.more))

    pub pass_left : (l : ℕ) → length steps ≤ length start → o ≡ Some l → Opened values l
    pass_left l le is = subst (Calm X [] values) is (now.calm (still le))

    pub pass_all_met : length steps ≤ length start → o ≡ None → X (written values) ≡ true
    pass_all_met le none = subst (Calm X [] values) none (now.calm (still le))

pub swept_err : (X : (ℕ → Bool) → Bool) (start : List Step) (values : List ℕ) (steps : List Step) (r : Result Pass Clash) → IsErr r → Clashed X start values steps → Swept X start values steps r
swept_err X start values steps (Ok pass) e h = absurd (both_ways false refl e)
swept_err X start values steps (Err clash) e h = h
